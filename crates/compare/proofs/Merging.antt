-- One turn of the walk along two chains is one step of the merge of their blocks.
use Rattle.std.specs.Prelude.{Option, Some, None, is_some}
use Rattle.std.specs.Option.{option_or, ForSome}
use mathlib.Core.Path.{◌≡◌, refl, sym, ap, ◌∙◌, subst}
use mathlib.Core.Bool.{Bool, true, false, cond, ◌&&◌}
use mathlib.Core.List.{List, [], ◌∷◌}
use Prim.Native.Nat.{ℕ, zero, suc, ◌+◌, ◌*◌, ◌-◌, ◌≤◌, ◌<◌}
use native.Mathlib.Omega.{arith}
use lib.Dec.{eqb}
use lib.ListN.{length, drop}
use lib.IntN.{ℤ, nat_abs}
use borrow.Author.Tests.{le-leb}
use Rattle.std.proofs.lemmas.List.{length-drop}
use Rattle.algebra.specs.Words.{up_to}
use Rattle.algebra.proofs.Tests.{and_split}
use Rattle.exact.specs.Exact.{lowest, max_exponent}
use Rattle.store.specs.Store.{before}
use Rattle.compare.specs.declared.Difference.{Difference}
use Rattle.compare.specs.declared.Turn.{Turn}
use Rattle.compare.specs.declared.Cursor.{Cursor}
use Rattle.channel.specs.Layout.{Block, record_head, exponent_place, channels, side, word, store_at, dim_at, count_at, chain, read_back}
use Rattle.channel.specs.WellFormed.{well_formed}
use Rattle.channel.specs.Inner.Shapes.{Onward}
use Rattle.compare.specs.Compare.{Both, scan, first, merge, left_only, right_only, paired}
use Rattle.compare.specs.Inner.Walk.{side_at, taken_of, both_at, on_left, on_right, on_both, turn_of, cursor_at, advance, On}
use Rattle.compare.specs.Inner.Sides.{Side, holds, side_of, blocks_of}
use Rattle.channel.proofs.Chain.{onward_begin, on-inside, on-block, on-next}
use Rattle.channel.proofs.Suffix.{word-from, numbers-from}

-- ---- what is ahead of a record of a channel, with it
abbrev along : List ℤ → ℕ → ℕ → List Block
along l = chain (channels (dim_at l)) l

abbrev ahead : List ℤ → Option Cursor → List Block
ahead l None = []
ahead l (Some c) = along l c.left c.at

abbrev pub size : Option Cursor → ℕ
size None = 0
size (Some c) = c.left

abbrev block : List ℤ → Cursor → Block
block l c = record { store = c.store; entry = side_at l (Some c) }

enters : (l : List ℤ) (n at : ℕ) → ahead l (cursor_at l n at) ≡ along l n at
enters l zero at = refl
enters l (suc n) at = refl

enters-size : (l : List ℤ) (n at : ℕ) → size (cursor_at l n at) ≡ n
enters-size l zero at = refl
enters-size l (suc n) at = refl

enters-on : (l : List ℤ) (n at : ℕ) → Onward l n at → ForSome (cursor_at l n at) (On l)
enters-on l zero at o c e = absurd (cc)
enters-on l (suc n) at o c e = subst (On l) here (record { walk = o; some = omega arith; store = refl })
  where
    here : record { at = at; left = suc n; store = store_at l at } ≡ c
    here = cc

abbrev next : List ℤ → Cursor → Option Cursor
next l c = advance l (Some c) None

module _ {l : List ℤ} {c : Cursor} (o : On l c) where
  opens : along l c.left c.at ≡ (block l c ∷ ahead l (next l c))
  opens =
      let e : c.left ≡ suc (c.left - 1) = let h = o.some in omega arith in
      ap (λ (n : ℕ). along l n c.at) e
      ∙ (λ i. record { store = sym o.store i; entry = side_at l (Some c) } ∷ sym (enters l (c.left - 1) (nat_abs (word l c.at))) i)

  shorter : size (next l c) < c.left
  shorter = let h = o.some in let e = enters-size l (c.left - 1) (nat_abs (word l c.at)) in omega arith

pub on-advance : {l : List ℤ} (s c : Option Cursor) → ForSome s (On l) → ForSome c (On l) → ForSome (advance l s c) (On l)
on-advance None c p q = q
on-advance {l} (Some t) c p q = let o = p t refl in enters-on l (t.left - 1) (nat_abs (word l t.at)) (on-next o.walk o.some)

no-side : (l : List ℤ) → ForSome None (On l)
no-side l c e = absurd (cc)

-- ---- one turn
module _ (l r : List ℤ) where
  record Turns (a b : Option Cursor) (t : Turn) : Type 0 where
    step : merge (ahead l a) (ahead r b) ≡ (both_at l r t ∷ merge (ahead l (advance l t.left a)) (ahead r (advance r t.right b)))
    left : ForSome t.left (On l)
    right : ForSome t.right (On r)
    less : size (advance l t.left a) + size (advance r t.right b) < size a + size b

  module _ (x y : Cursor) (p : ForSome (Some x) (On l)) (q : ForSome (Some y) (On r)) where
    abbrev xs : List Block
    xs = ahead l (next l x)

    abbrev ys : List Block
    ys = ahead r (next r y)

    abbrev by : Bool → Bool → List Both
    by e f =
        cond e (paired (block l x) (block r y) ∷ merge xs ys)
        (cond f (left_only (block l x) ∷ merge xs (block r y ∷ ys)) (right_only (block r y) ∷ merge (block l x ∷ xs) ys))

    opened : merge (ahead l (Some x)) (ahead r (Some y)) ≡ by (eqb x.store y.store) (before x.store y.store)
    opened = λ i. merge (opens (p x refl) i) (opens (q y refl) i)

    meeting : (e : Bool) → eqb x.store y.store ≡ e → (f : Bool) → before x.store y.store ≡ f
        → Turns (Some x) (Some y) (cond e (on_both x y) (cond f (on_left x) (on_right y)))
    meeting true e f g = record {
      step = opened ∙ ap (λ (t : Bool). by t (before x.store y.store)) e;
      left = p;
      right = q;
      less = let s = shorter (p x refl) in let t = shorter (q y refl) in omega arith;
    }
    meeting false e true g = record {
      step = opened ∙ (λ i. by (e i) (g i)) ∙ (λ i. left_only (block l x) ∷ merge xs (sym (opens (q y refl)) i));
      left = p;
      right = no-side r;
      less = let s = shorter (p x refl) in omega arith;
    }
    meeting false e false g = record {
      step = opened ∙ (λ i. by (e i) (g i)) ∙ (λ i. right_only (block r y) ∷ merge (sym (opens (p x refl)) i) ys);
      left = no-side l;
      right = q;
      less = let t = shorter (q y refl) in omega arith;
    }

  turns : (a b : Option Cursor) (t : Turn) → ForSome a (On l) → ForSome b (On r) → Some t ≡ turn_of a b → Turns a b t
  turns None None t p q e = absurd (cc)
  turns None (Some y) t p q e = subst (Turns None (Some y)) is (record {
    step = ap (merge []) (opens (q y refl));
    left = no-side l;
    right = q;
    less = let t = shorter (q y refl) in omega arith;
  })
    where
      is : on_right y ≡ t
      is = cc
  turns (Some x) None t p q e = subst (Turns (Some x) None) is (record {
    step = ap (λ (bs : List Block). merge bs []) (opens (p x refl));
    left = p;
    right = no-side r;
    less = let s = shorter (p x refl) in omega arith;
  })
    where
      is : on_left x ≡ t
      is = cc
  turns (Some x) (Some y) t p q e = subst (Turns (Some x) (Some y)) is (meeting x y p q (eqb x.store y.store) refl (before x.store y.store) refl)
    where
      is : cond (eqb x.store y.store) (on_both x y) (cond (before x.store y.store) (on_left x) (on_right y)) ≡ t
      is = cc

-- ---- the words of a side that takes part
module _ (l : List ℤ) where
  taken-entries : (s : Option Cursor) → side_of (taken_of l s) ≡ side_at l s
  taken-entries None = refl
  taken-entries (Some c) = λ i k. lowest (numbers-from (channels (dim_at l)) l c.at i k) (nat_abs (word-from l c.at exponent_place i))

  pub taken-held : {x : Side} (w n : ℕ) {s : Option Cursor} → ForSome s (On l) → w ≡ side (dim_at l) → n ≤ w * w → x ≡ taken_of l s → holds n x ≡ true
  taken-held w n {s} o e h p = ap (holds n) p ∙ by s o
    where
      room : (v at : ℕ) → w ≡ v → at + (record_head + v * v * 4) ≤ length l → record_head + n * 4 ≤ length (drop at l)
      room v at e q = let t : w * w ≡ v * v = ap (λ (x : ℕ). x * x) e in omega (arith, length-drop at l)

      by : (s : Option Cursor) → ForSome s (On l) → holds n (taken_of l s) ≡ true
      by None o = refl
      by (Some c) o =
          let q = o c refl in
          λ i. le-leb _ _ (room (side (dim_at l)) c.at e (on-inside q.walk q.some)) i
          && (ap (up_to max_exponent) (word-from l c.at exponent_place) ∙ (and_split _ _ (on-block q.walk q.some)).0) i

-- ---- the whole walk
pub record Walking (l r : List ℤ) (w : ℕ) (a b : Option Cursor) : Type 0 where
  left : ForSome a (On l)
  right : ForSome b (On r)
  is : first w (merge (read_back l) (read_back r)) ≡ first w (merge (ahead l a) (ahead r b))

pub walking_begin : {l r : List ℤ} {w : ℕ} {a b : Option Cursor} → well_formed l ≡ true → well_formed r ≡ true
    → a ≡ cursor_at l (count_at l) (nat_abs (word l 3)) → b ≡ cursor_at r (count_at r) (nat_abs (word r 3)) → Walking l r w a b
walking_begin {l} {r} {w} e f p q = record {
  left = subst (λ (c : Option Cursor). ForSome c (On l)) (sym p) (enters-on l _ _ (onward_begin l e));
  right = subst (λ (c : Option Cursor). ForSome c (On r)) (sym q) (enters-on r _ _ (onward_begin r f));
  is = sym (λ i. first w (merge ((ap (ahead l) p ∙ enters l _ _) i) ((ap (ahead r) q ∙ enters r _ _) i)));
}

-- the turn that two cursors make
module _ {l r : List ℤ} {w : ℕ} {a b : Option Cursor} (k : Walking l r w a b) {o : Option Turn} (e : o ≡ turn_of a b) {turn : Turn} (f : o ≡ Some turn) where
  turning : Turns l r a b turn
  turning = turns l r a b turn k.left k.right (sym f ∙ e)

  pub left-on : ForSome turn.left (On l)
  left-on = turning.left

  pub right-on : ForSome turn.right (On r)
  right-on = turning.right

  abbrev answered : Option Difference
  answered = scan (both_at l r turn) w (w * w) 0

  pub seen : {x y : Side} → x ≡ taken_of l turn.left → y ≡ taken_of r turn.right → scan (blocks_of turn.store x y) w (w * w) 0 ≡ answered
  seen p q = λ i. scan (record { store = turn.store; left = (ap side_of p ∙ taken-entries l turn.left) i; right = (ap side_of q ∙ taken-entries r turn.right) i }) w (w * w) 0

  abbrev rest : Option Difference
  rest = first w (merge (ahead l (advance l turn.left a)) (ahead r (advance r turn.right b)))

  step_is : first w (merge (read_back l) (read_back r)) ≡ option_or answered rest
  step_is = k.is ∙ ap (first w) turning.step

  or-some : (o s : Option Difference) → is_some o ≡ true → o ≡ option_or o s
  or-some None s e = absurd (cc)
  or-some (Some d) s e = refl

  or_none : (o s : Option Difference) → is_some o ≡ false → option_or o s ≡ s
  or_none None s e = refl
  or_none (Some d) s e = absurd (cc)

  pub walking_stop : is_some answered ≡ true → answered ≡ first w (merge (read_back l) (read_back r))
  walking_stop e = or-some answered rest e ∙ sym step_is

  module _ {c d : Option Cursor} (p : c ≡ advance l turn.left a) (q : d ≡ advance r turn.right b) where
    pub walking_on : is_some answered ≡ false → Walking l r w c d
    walking_on e = record {
      left = subst (λ (c : Option Cursor). ForSome c (On l)) (sym p) (on-advance turn.left a turning.left k.left);
      right = subst (λ (c : Option Cursor). ForSome c (On r)) (sym q) (on-advance turn.right b turning.right k.right);
      is = step_is ∙ or_none answered rest e ∙ sym (λ i. first w (merge (ahead l (p i)) (ahead r (q i))));
    }

    pub walking_less : size c + size d < size a + size b
    walking_less = subst (λ (n : ℕ). n < size a + size b) (sym (λ i. size (p i) + size (q i))) turning.less

pub walking_done : {l r : List ℤ} {w : ℕ} {a b : Option Cursor} → Walking l r w a b → {o : Option Turn} → o ≡ turn_of a b → o ≡ None → None ≡ first w (merge (read_back l) (read_back r))
walking_done {l} {r} {w} {a} {b} k e f = sym (k.is ∙ by a b (sym f ∙ e))
  where
    by : (a b : Option Cursor) → None ≡ turn_of a b → first w (merge (ahead l a) (ahead r b)) ≡ None
    by None None e = refl
    by None (Some y) e = absurd (cc)
    by (Some x) None e = absurd (cc)
    by (Some x) (Some y) e = absurd (cc)
