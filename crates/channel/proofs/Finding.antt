-- Looking a store up: the walk along the chain, and the part that is handed back.
use Rattle.std.specs.Prelude.{is_ok, Option, Some, None, Ok}
use mathlib.Core.Path.{◌≡◌, refl, sym, ap, ◌∙◌, subst}
use mathlib.Core.Bool.{Bool, true, false, cond}
use mathlib.Core.List.{List}
use Prim.Native.Nat.{ℕ, zero, suc, ◌+◌, ◌-◌, ◌<◌, ◌≤◌}
use native.Mathlib.Omega.{arith}
use lib.Dec.{eqb}
use lib.ListN.{length, take, drop}
use lib.IntN.{ℤ, nat_abs}
use Rattle.algebra.specs.Words.{from_bits}
use Rattle.channel.specs.declared.Shape.{Shape}
use Rattle.channel.specs.declared.lookup.Span.{Span}
use Rattle.channel.specs.Layout.{exponent_place, channels, record_size, word, store_at, dim_at, bits_at, count_at}
use Rattle.channel.specs.WellFormed.{well_formed, form_verdict}
use Rattle.channel.specs.Inner.Shapes.{Onward, shape_at, shape_of}
use Rattle.store.specs.Store.{store_fits}
use Rattle.channel.specs.Lookup.{Lookup, refused, wrong_store, missing, found, find, placed, lookup_of, block_words, part_of, span_of}
use Rattle.channel.proofs.Judging.{form-right, passed_is}
use Rattle.channel.proofs.Chain.{onward_begin, on-inside, on-next}

-- ---- one step of the walk
module _ (l : List ℤ) (s n at : ℕ) (h : 0 < n) where
  step : find l s n at ≡ cond (eqb (store_at l at) s) (Some at) (find l s (n - 1) (nat_abs (word l at)))
  unfolding find
  step = let e : n ≡ suc (n - 1) = omega arith in ap (λ (k : ℕ). find l s k at) e

  pub finds : eqb (store_at l at) s ≡ true → find l s n at ≡ Some at
  finds e = step ∙ ap (λ (b : Bool). cond b (Some at) (find l s (n - 1) (nat_abs (word l at)))) e

  pub seeks : eqb (store_at l at) s ≡ false → find l s n at ≡ find l s (n - 1) (nat_abs (word l at))
  seeks e = step ∙ ap (λ (b : Bool). cond b (Some at) (find l s (n - 1) (nat_abs (word l at)))) e

pub find_none : (l : List ℤ) (s n at : ℕ) → n ≤ 0 → find l s n at ≡ None
unfolding find
find_none l s n at h = let e : n ≡ 0 = omega arith in ap (λ (k : ℕ). find l s k at) e

-- ---- what is found lies inside the words
pub find-inside : {l : List ℤ} (s n at : ℕ) → Onward l n at → (a : ℕ) → find l s n at ≡ Some a → a + record_size (channels (dim_at l)) ≤ length l
find-inside {l} s zero at o a e = let z = find_none l s 0 at (omega arith) in absurd (cc)
find-inside {l} s (suc n) at o a e = go (eqb (store_at l at) s) refl (λ q. find-inside s n (nat_abs (word l at)) (subst (λ (k : ℕ). Onward l k (nat_abs (word l at))) less (on-next o (omega arith))) a q)
  where
    less : suc n - 1 ≡ n
    less = omega arith

    go : (b : Bool) → eqb (store_at l at) s ≡ b → (find l s n (nat_abs (word l at)) ≡ Some a → a + record_size (channels (dim_at l)) ≤ length l) → a + record_size (channels (dim_at l)) ≤ length l
    go true t r =
        let q : ◌≡◌ {A = Option ℕ} (Some at) (Some a) = sym (finds l s (suc n) at (omega arith) t) ∙ e in
        let p : at ≡ a = cc in
        subst (λ (k : ℕ). k + record_size (channels (dim_at l)) ≤ length l) p (on-inside o (omega arith))
    go false t r = r (sym (ap (λ (k : ℕ). find l s k (nat_abs (word l at))) less) ∙ sym (seeks l s (suc n) at (omega arith) t) ∙ e)

module _ (l : List ℤ) (bs : List ℕ) where
  abbrev pub index : Option ℕ
  index = find l (from_bits bs) (count_at l) (nat_abs (word l 3))

  pub look-refused : is_ok (form_verdict l) ≡ false → lookup_of l bs ≡ refused
  look-refused e = ap (λ (b : Bool). cond b (cond (store_fits (bits_at l) bs) (placed index) wrong_store) refused) e

  pub look-wrong : is_ok (form_verdict l) ≡ true → store_fits (bits_at l) bs ≡ false → lookup_of l bs ≡ wrong_store
  look-wrong e f = λ i. cond (e i) (cond (f i) (placed index) wrong_store) refused

  pub look-placed : is_ok (form_verdict l) ≡ true → store_fits (bits_at l) bs ≡ true → lookup_of l bs ≡ placed index
  look-placed e f = λ i. cond (e i) (cond (f i) (placed index) wrong_store) refused

  pub index-inside : well_formed l ≡ true → (a : ℕ) → index ≡ Some a → a + record_size (channels (dim_at l)) ≤ length l
  index-inside e = find-inside (from_bits bs) (count_at l) (nat_abs (word l 3)) (onward_begin l e)

  placed_in : well_formed l ≡ true → (i : Option ℕ) → index ≡ i → (a : ℕ) → placed i ≡ found a → a + record_size (channels (dim_at l)) ≤ length l
  placed_in w None g a e = absurd (cc)
  placed_in w (Some k) g a e = let q : k ≡ a = cc in index-inside w a (g ∙ ap (λ (n : ℕ). Some n) q)

  found-inside : (a : ℕ) → lookup_of l bs ≡ found a → a + record_size (channels (dim_at l)) ≤ length l
  found-inside a e = go (is_ok (form_verdict l)) refl (store_fits (bits_at l) bs) refl
    where
      go : (b : Bool) → is_ok (form_verdict l) ≡ b → (c : Bool) → store_fits (bits_at l) bs ≡ c → a + record_size (channels (dim_at l)) ≤ length l
      go false p c q = let z = look-refused p in absurd (cc)
      go true p false q = let z = look-wrong p q in absurd (cc)
      go true p true q = placed_in (form-right l p) index refl a (sym (look-placed p q) ∙ e)

  -- the part that holds a block, by its place and size
  pub record Part (s : Span) : Type 0 where
    pub inside : s.start + s.size ≤ length l
    pub words : take s.size (drop s.start l) ≡ part_of l (lookup_of l bs)

  pub part_there : {s : Span} → span_of l (lookup_of l bs) ≡ Some s → Part s
  part_there {s} = by (lookup_of l bs) refl
    where
      by : (x : Lookup) → lookup_of l bs ≡ x → span_of l x ≡ Some s → Part s
      by refused e q = absurd (cc)
      by wrong_store e q = absurd (cc)
      by missing e q = absurd (cc)
      by (found a) e q =
          let p : record { start = a + exponent_place; size = block_words l } ≡ s = cc in
          subst Part p (record { inside = let r = found-inside a e in omega arith; words = ap (part_of l) (sym e) })

-- ---- what a look-up answers, step by step
module _ (l : List ℤ) (bs : List ℕ) where
  module _ {h : Shape} (e : Ok h ≡ shape_of l) where
    is_header : h ≡ shape_at l
    is_header = (passed_is l e).is

    module _ (f : store_fits h.bits bs ≡ true) where
      module _ {p : ℕ} (g : p ≡ from_bits bs) where
        index_is : find l p h.count (nat_abs (word l 3)) ≡ index l bs
        index_is = λ i. find l (g i) (is_header i).count (nat_abs (word l 3))

        module _ {a : ℕ} (q : Some a ≡ find l p h.count (nat_abs (word l 3))) where
          pub inside_there : a + record_size (channels (dim_at l)) ≤ length l
          inside_there = index-inside l bs (passed_is l e).right a (sym (q ∙ index_is))
