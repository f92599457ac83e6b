-- The counts of a gate list as words: what is read of them, and what a gate more or less makes of them.
use mathlib.Core.Path.{◌≡◌, refl, sym, ap, ◌∙◌}
use mathlib.Core.Logic.{◌≢◌}
use mathlib.Core.Bool.{Bool, true, false, cond, not, ◌&&◌, ◌||◌, true≢false}
use mathlib.Core.List.{List, [], ◌∷◌, ◌++◌, append_assoc}
use Prim.Native.Nat.{ℕ, zero, suc, ◌+◌, ◌-◌, ◌≤◌, ◌<◌}
use native.Mathlib.Nat.{add-zero, not-suc-le-zero}
use native.Mathlib.Decide.{ℕ_discrete}
use native.Mathlib.Omega.{arith}
use lib.Dec.{eqb, ltb}
use lib.ListN.{length, get_or, set, replicate, length-append, length-set, get_or-append}
use lib.Seq.{set-append_left, get_or-set_same, get_or-set_other, ext_get_or}
use lib.IntN.{ℤ, pos, nat_abs}
use borrow.Author.Tests.{ltb-true, lt-ltb, eq-eqb, ne_eqb}
use Rattle.algebra.specs.Lists.{some, every, total, marks}
use Rattle.algebra.proofs.Tests.{and_split}
use Rattle.gate.specs.Gate.{Gate, measure, elem, bits, weight, splits}
use Rattle.circuit.specs.Footprint.{writes}
use Rattle.circuit.specs.Inner.Footprint.{newly}
use Rattle.circuit.proofs.Counts.{marks_nil, marks-more, newly-one}
use Rattle.kept_circuit.specs.Kept.{gates_place, weight_place, splits_place, written_place, measures_place, max_bits, measures, measure_words, count_at}
use Rattle.kept_circuit.specs.Edits.{moved, move_at, mark, mark_all, counted}

-- ---- measures into each bit
pub length-measures : (n i : ℕ) (gs : List Gate) → length (measure_words n i gs) ≡ n
unfolding measure_words
length-measures zero i gs = refl
length-measures (suc n) i gs = ap suc (length-measures n (suc i) gs)

pub measures-at : (n i : ℕ) (gs : List Gate) (k : ℕ) → k < n → get_or (measure_words n i gs) k (pos 0) ≡ pos (measures (i + k) gs)
unfolding measure_words
measures-at zero i gs k h = absurd (not-suc-le-zero h)
measures-at (suc n) i gs zero h = ap (λ (j : ℕ). pos (measures j gs)) (sym (add-zero i))
measures-at (suc n) i gs (suc k) h = measures-at n (suc i) gs k (omega arith) ∙ ap (λ (j : ℕ). pos (measures j gs)) (place i k)
  where
    place : (i k : ℕ) → suc i + k ≡ i + suc k
    place i k = omega arith

pub measures-none : (n i : ℕ) → measure_words n i [] ≡ replicate n (pos 0)
unfolding measure_words
measures-none zero i = refl
measures-none (suc n) i = ap (λ (l : List ℤ). pos 0 ∷ l) (measures-none n (suc i))

pub measures-same : (n i : ℕ) (gs hs : List Gate) → ((j : ℕ) → measures j gs ≡ measures j hs) → measure_words n i gs ≡ measure_words n i hs
unfolding measure_words
measures-same zero i gs hs e = refl
measures-same (suc n) i gs hs e = λ k. pos (e i k) ∷ measures-same n (suc i) gs hs e k

-- bit b, of n from bit 0 on, has another count
pub measures-set : (n b : ℕ) (gs hs : List Gate) → b < n → ((j : ℕ) → j ≢ b → measures j gs ≡ measures j hs)
    → set (measure_words n 0 gs) b (pos (measures b hs)) ≡ measure_words n 0 hs
measures-set n b gs hs h e =
    ext_get_or (pos 0) (set (measure_words n 0 gs) b (pos (measures b hs))) (measure_words n 0 hs) (length-set (measure_words n 0 gs) b (pos (measures b hs)) ∙ length-measures n 0 gs ∙ sym (length-measures n 0 hs))
    (λ j p. go j (omega (arith, p, length-set (measure_words n 0 gs) b (pos (measures b hs)), length-measures n 0 gs)) (ℕ_discrete j b))
  where
    from : (gs : List Gate) (j : ℕ) → j < n → get_or (measure_words n 0 gs) j (pos 0) ≡ pos (measures j gs)
    from gs j l = let z : 0 + j ≡ j = omega arith in measures-at n 0 gs j l ∙ ap (λ (k : ℕ). pos (measures k gs)) z

    go : (j : ℕ) → j < n → Dec (j ≡ b) → get_or (set (measure_words n 0 gs) b (pos (measures b hs))) j (pos 0) ≡ get_or (measure_words n 0 hs) j (pos 0)
    go j l (yes q) =
        ap (λ (k : ℕ). get_or (set (measure_words n 0 gs) b (pos (measures b hs))) k (pos 0)) q
        ∙ get_or-set_same (measure_words n 0 gs) b (pos (measures b hs)) (pos 0) (omega (arith, length-measures n 0 gs))
        ∙ ap (λ (k : ℕ). pos (measures k hs)) (sym q) ∙ sym (from hs j l)
    go j l (no q) = get_or-set_other (measure_words n 0 gs) b j (pos (measures b hs)) (pos 0) q ∙ from gs j l ∙ ap pos (e j q) ∙ sym (from hs j l)

-- ---- a gate in front
-- measures into a bit of a gate that has one
pub measures-here : (g : Gate) (gs : List Gate) → eqb g.kind measure ≡ true → measures g.b (g ∷ gs) ≡ suc (measures g.b gs)
measures-here g gs e = ap (λ (t : Bool). cond t 1 0 + measures g.b gs) (written (eqb g.kind measure) e) ∙ one (measures g.b gs)
  where
    written : (t : Bool) → t ≡ true → elem g.b (cond t (g.b ∷ []) []) ≡ true
    written true e = ap (λ (t : Bool). t || false) (eq-eqb g.b g.b refl)
    written false e = absurd (true≢false (sym e))

    one : (k : ℕ) → 1 + k ≡ suc k
    one k = omega arith

zero_in : (k : ℕ) → 0 + k ≡ k
zero_in k = omega arith

pub measures-other : (g : Gate) (gs : List Gate) (j : ℕ) → writes g j ≡ false → measures j (g ∷ gs) ≡ measures j gs
measures-other g gs j e = ap (λ (t : Bool). cond t 1 0 + measures j gs) e ∙ zero_in (measures j gs)

pub writes-other : (g : Gate) (j : ℕ) → j ≢ g.b → writes g j ≡ false
writes-other g j ne = go (eqb g.kind measure)
  where
    go : (t : Bool) → elem j (cond t (g.b ∷ []) []) ≡ false
    go true = ap (λ (t : Bool). t || false) (ne_eqb j g.b ne)
    go false = refl

pub writes-none : (g : Gate) (j : ℕ) → eqb g.kind measure ≡ false → writes g j ≡ false
writes-none g j e = ap (λ (t : Bool). elem j (cond t (g.b ∷ []) [])) e

-- a bit is measured into where its count is not 0
pub some-measures : (i : ℕ) (gs : List Gate) → some (λ (h : Gate). writes h i) gs ≡ not (eqb (measures i gs) 0)
some-measures i [] = refl
some-measures i (g ∷ gs) = go (writes g i) (measures i gs) (some-measures i gs)
  where
    go : (t : Bool) (k : ℕ) → some (λ (h : Gate). writes h i) gs ≡ not (eqb k 0) → (t || some (λ (h : Gate). writes h i) gs) ≡ not (eqb (cond t 1 0 + k) 0)
    go true k e = sym (ap not (ne_eqb (1 + k) 0 (λ q. clash q)))
      where
        clash : 1 + k ≡ 0 → ⊥
        clash q = omega arith
    go false k e = e ∙ ap (λ (j : ℕ). not (eqb j 0)) (sym (zero_in k))

pub newly-none : (m : ℕ) (g : Gate) (gs : List Gate) → eqb g.kind measure ≡ false → newly m g gs ≡ 0
newly-none m g gs e = ap (λ (t : Bool). cond (t && (ltb g.b m && not (some (λ (h : Gate). writes h g.b) gs))) 1 0) e

pub newly-here : (m : ℕ) (g : Gate) (gs : List Gate) → eqb g.kind measure ≡ true → g.b < m → newly m g gs ≡ cond (eqb (measures g.b gs) 0) 1 0
newly-here m g gs e h =
    (λ i. cond (e i && (lt-ltb g.b m h i && not (some-measures g.b gs i))) 1 0) ∙ ap (λ (t : Bool). cond t 1 0) (twice (eqb (measures g.b gs) 0))
  where
    twice : (t : Bool) → not (not t) ≡ t
    twice true = refl
    twice false = refl

pub marks-few : (m : ℕ) (gs : List Gate) → marks m writes gs ≤ length gs
marks-few m [] = omega (arith, marks_nil writes m)
marks-few m (g ∷ gs) = omega (arith, marks-more m g gs, newly-one m g gs, marks-few m gs)

pub total-few : (f : Gate → ℕ) → ((g : Gate) → f g ≤ 1) → (gs : List Gate) → total f gs ≤ length gs
total-few f h [] = omega arith
total-few f h (g ∷ gs) = omega (arith, h g, total-few f h gs)

pub measures-few : (i : ℕ) (gs : List Gate) → measures i gs ≤ length gs
measures-few i gs = total-few (λ (g : Gate). cond (writes g i) 1 0) (λ g. one (writes g i)) gs
  where
    one : (t : Bool) → cond t 1 0 ≤ 1
    one true = omega arith
    one false = omega arith

-- ---- a gate in the middle counts as one in front
pub total_middle : (f : Gate → ℕ) (xs : List Gate) (g : Gate) (ys : List Gate) → total f (xs ++ (g ∷ ys)) ≡ total f (g ∷ (xs ++ ys))
total_middle f [] g ys = refl
total_middle f (x ∷ xs) g ys = omega (arith, total_middle f xs g ys)

pub length_middle : (xs : List Gate) (g : Gate) (ys : List Gate) → length (xs ++ (g ∷ ys)) ≡ length (g ∷ (xs ++ ys))
length_middle [] g ys = refl
length_middle (x ∷ xs) g ys = ap suc (length_middle xs g ys)

some_middle : (p : Gate → Bool) (xs : List Gate) (g : Gate) (ys : List Gate) → some p (xs ++ (g ∷ ys)) ≡ some p (g ∷ (xs ++ ys))
some_middle p [] g ys = refl
some_middle p (x ∷ xs) g ys = ap (λ (b : Bool). p x || b) (some_middle p xs g ys) ∙ swap (p x) (p g) (some p (xs ++ ys))
  where
    swap : (a b c : Bool) → (a || (b || c)) ≡ (b || (a || c))
    swap true true c = refl
    swap true false c = refl
    swap false b c = refl

pub marks_middle : (m : ℕ) (xs : List Gate) (g : Gate) (ys : List Gate) → marks m writes (xs ++ (g ∷ ys)) ≡ marks m writes (g ∷ (xs ++ ys))
marks_middle zero xs g ys = refl
marks_middle (suc n) xs g ys = λ i. marks_middle n xs g ys i + cond (some_middle (λ (h : Gate). writes h n) xs g ys i) 1 0

-- ---- the words before the places, and what follows
abbrev pub six : ℕ → ℕ → ℕ → ℕ → ℕ → ℕ → List ℤ → List ℤ
six n m g w s t r = pos n ∷ pos m ∷ pos g ∷ pos w ∷ pos s ∷ pos t ∷ r

unfoldable pub headed : ℕ → ℕ → List Gate → List ℤ → List ℤ
headed n m gs r = six n m (length gs) (total weight gs) (total splits gs) (marks m writes gs) (measure_words max_bits 0 gs ++ r)

pub headed_middle : (n m : ℕ) (xs : List Gate) (g : Gate) (ys : List Gate) (r : List ℤ) → headed n m (xs ++ (g ∷ ys)) r ≡ headed n m (g ∷ (xs ++ ys)) r
unfolding headed
headed_middle n m xs g ys r =
    λ i. six n m (length_middle xs g ys i) (total_middle weight xs g ys i) (total_middle splits xs g ys i) (marks_middle m xs g ys i)
    (measures-same max_bits 0 (xs ++ (g ∷ ys)) (g ∷ (xs ++ ys)) (λ j. total_middle (λ (h : Gate). cond (writes h j) 1 0) xs g ys) i ++ r)

pub headed_append : (n m : ℕ) (gs : List Gate) (a b : List ℤ) → headed n m gs (a ++ b) ≡ headed n m gs a ++ b
unfolding headed
headed_append n m gs a b =
    ap (six n m (length gs) (total weight gs) (total splits gs) (marks m writes gs)) (sym (append_assoc (measure_words max_bits 0 gs) a b))

pub length-headed : (n m : ℕ) (gs : List Gate) (r : List ℤ) → length (headed n m gs r) ≡ 70 + length r
unfolding headed
length-headed n m gs r = omega (arith, length-append (measure_words max_bits 0 gs) r, length-measures max_bits 0 gs)

-- ---- the counts moved, word by word
module _ (more : Bool) (n m g w s t : ℕ) where
  -- measures into bit b: from k to moved more k 1
  module _ (ms r : List ℤ) (b k : ℕ) (h : b < length ms) (e : get_or ms b (pos 0) ≡ pos k) where
    place : measures_place + b ≡ suc (suc (suc (suc (suc (suc b)))))
    place = omega arith

    pub bit_count_lem : count_at (six n m g w s t (ms ++ r)) (measures_place + b) ≡ k
    bit_count_lem = ap (λ (j : ℕ). count_at (six n m g w s t (ms ++ r)) j) place ∙ ap nat_abs (get_or-append ms r (pos 0) b h ∙ e)

    pub bit_moved : move_at more (six n m g w s t (ms ++ r)) (measures_place + b) 1 ≡ six n m g w s t (set ms b (pos (moved more k 1)) ++ r)
    unfolding move_at
    bit_moved =
        (λ i. set (six n m g w s t (ms ++ r)) (place i) (pos (moved more (bit_count_lem i) 1)))
        ∙ ap (six n m g w s t) (set-append_left ms r b (pos (moved more k 1)) h)

-- one measure more or less into bit b: gs before, hs after
module _ (more : Bool) (n m g w s t : ℕ) (gs hs : List Gate) (r : List ℤ) (b : ℕ) (h : b < max_bits) (here : measures b hs ≡ moved more (measures b gs) 1)
    (others : (j : ℕ) → j ≢ b → measures j gs ≡ measures j hs) where
  zeroth : (gs : List Gate) → get_or (measure_words max_bits 0 gs) b (pos 0) ≡ pos (measures b gs)
  zeroth gs = measures-at max_bits 0 gs b h ∙ ap (λ (j : ℕ). pos (measures j gs)) (zero_in b)

  fits : (gs : List Gate) → b < length (measure_words max_bits 0 gs)
  fits gs = omega (arith, h, length-measures max_bits 0 gs)

  first : move_at more (six n m g w s t (measure_words max_bits 0 gs ++ r)) (measures_place + b) 1 ≡ six n m g w s t (measure_words max_bits 0 hs ++ r)
  first =
      bit_moved more n m g w s t (measure_words max_bits 0 gs) r b (measures b gs) (fits gs) (zeroth gs)
      ∙ (λ i. six n m g w s t (set (measure_words max_bits 0 gs) b (pos (sym here i)) ++ r)) ∙ (λ i. six n m g w s t (measures-set max_bits b gs hs h others i ++ r))

  pub mark-head : mark more (six n m g w s t (measure_words max_bits 0 gs ++ r)) b
      ≡ six n m g w s (cond (eqb (measures b gs) 0 || eqb (measures b hs) 0) (moved more t 1) t) (measure_words max_bits 0 hs ++ r)
  unfolding mark move_at
  mark-head =
      (λ i. cond (eqb (bit_count_lem more n m g w s t (measure_words max_bits 0 gs) r b (measures b gs) (fits gs) (zeroth gs) i) 0 || eqb (count_at (first i) (measures_place + b)) 0)
      (move_at more (first i) written_place 1) (first i))
      ∙ (λ i. cond (eqb (measures b gs) 0 || eqb (bit_count_lem more n m g w s t (measure_words max_bits 0 hs) r b (measures b hs) (fits hs) (zeroth hs) i) 0)
      (move_at more (six n m g w s t (measure_words max_bits 0 hs ++ r)) written_place 1) (six n m g w s t (measure_words max_bits 0 hs ++ r)))
      ∙ inner (eqb (measures b gs) 0 || eqb (measures b hs) 0)
    where
      inner : (c : Bool) → cond c (six n m g w s (moved more t 1) (measure_words max_bits 0 hs ++ r)) (six n m g w s t (measure_words max_bits 0 hs ++ r))
          ≡ six n m g w s (cond c (moved more t 1) t) (measure_words max_bits 0 hs ++ r)
      inner true = refl
      inner false = refl

-- ---- a gate more or less: gs before, hs after
pub record Step (more : Bool) (m : ℕ) (gs hs : List Gate) (g : Gate) : Type 0 where
  pub gates : moved more (length gs) 1 ≡ length hs
  pub heavy : moved more (total weight gs) (weight g) ≡ total weight hs
  pub split : moved more (total splits gs) (splits g) ≡ total splits hs
  pub others : (j : ℕ) → writes g j ≡ false → measures j gs ≡ measures j hs
  pub none : eqb g.kind measure ≡ false → marks m writes gs ≡ marks m writes hs
  pub here : eqb g.kind measure ≡ true → measures g.b hs ≡ moved more (measures g.b gs) 1
  pub written : eqb g.kind measure ≡ true
      → cond (eqb (measures g.b gs) 0 || eqb (measures g.b hs) 0) (moved more (marks m writes gs) 1) (marks m writes gs) ≡ marks m writes hs

module _ {more : Bool} {m : ℕ} {gs hs : List Gate} {g : Gate} (p : Step more m gs hs g) (n : ℕ) (r : List ℤ) (small : every (λ (b : ℕ). ltb b max_bits) (bits g) ≡ true) where
  after : List Gate → ℕ → List ℤ
  after xs t = six n m (length hs) (total weight hs) (total splits hs) t (measure_words max_bits 0 xs ++ r)

  totals : move_at more (move_at more (move_at more (headed n m gs r) gates_place 1) weight_place (weight g)) splits_place (splits g)
      ≡ six n m (length hs) (total weight hs) (total splits hs) (marks m writes gs) (measure_words max_bits 0 gs ++ r)
  unfolding headed move_at
  totals = λ i. six n m (p.gates i) (p.heavy i) (p.split i) (marks m writes gs) (measure_words max_bits 0 gs ++ r)

  pub counted-head : counted more (headed n m gs r) g ≡ headed n m hs r
  unfolding counted headed
  counted-head = go (eqb g.kind measure) refl
    where
      go : (c : Bool) → eqb g.kind measure ≡ c
          → mark_all more (move_at more (move_at more (move_at more (headed n m gs r) gates_place 1) weight_place (weight g)) splits_place (splits g)) (cond (eqb g.kind measure) (g.b ∷ []) [])
          ≡ headed n m hs r
      go true e =
          let b : g.b < max_bits = ltb-true g.b max_bits (and_split (ltb g.b max_bits) true (ap (λ (c : Bool). every (λ (b : ℕ). ltb b max_bits) (cond c (g.b ∷ []) [])) (sym e) ∙ small)).0 in
          (λ i. mark_all more (totals i) (cond (e i) (g.b ∷ []) []))
          ∙ mark-head more n m (length hs) (total weight hs) (total splits hs) (marks m writes gs) gs hs r g.b b (p.here e) (λ j ne. p.others j (writes-other g j ne))
          ∙ (λ i. six n m (length hs) (total weight hs) (total splits hs) (p.written e i) (measure_words max_bits 0 hs ++ r))
      go false e =
          (λ i. mark_all more (totals i) (cond (e i) (g.b ∷ []) []))
          ∙ (λ i. six n m (length hs) (total weight hs) (total splits hs) (p.none e i) (measures-same max_bits 0 gs hs (λ j. p.others j (writes-none g j e)) i ++ r))

-- ---- the gate in front, more and less
module _ (m : ℕ) (gs : List Gate) (g : Gate) (small : eqb g.kind measure ≡ true → g.b < m) where
  new : eqb g.kind measure ≡ true → marks m writes (g ∷ gs) ≡ cond (eqb (measures g.b gs) 0) 1 0 + marks m writes gs
  new e = marks-more m g gs ∙ ap (λ (k : ℕ). k + marks m writes gs) (newly-here m g gs e (small e))

  old : eqb g.kind measure ≡ false → marks m writes (g ∷ gs) ≡ marks m writes gs
  old e = marks-more m g gs ∙ ap (λ (k : ℕ). k + marks m writes gs) (newly-none m g gs e) ∙ zero_in (marks m writes gs)

  never : (k : ℕ) → eqb (suc k) 0 ≡ false
  never k = ne_eqb (suc k) 0 (λ q. clash q)
    where
      clash : suc k ≡ 0 → ⊥
      clash q = omega arith

  pub step_in : Step true m gs (g ∷ gs) g
  step_in = record {
    gates = omega arith;
    heavy = omega arith;
    split = omega arith;
    others = λ j e. sym (measures-other g gs j e);
    none = λ e. sym (old e);
    here = λ e. measures-here g gs e ∙ plus (measures g.b gs);
    written = λ e. (λ i. cond (eqb (measures g.b gs) 0 || (ap (λ (k : ℕ). eqb k 0) (measures-here g gs e) ∙ never (measures g.b gs)) i) (marks m writes gs + 1) (marks m writes gs))
        ∙ up (eqb (measures g.b gs) 0) (marks m writes gs) ∙ sym (new e);
  }
    where
      plus : (k : ℕ) → suc k ≡ k + 1
      plus k = omega arith

      up : (c : Bool) (k : ℕ) → cond (c || false) (k + 1) k ≡ cond c 1 0 + k
      up true k = omega arith
      up false k = omega arith

  pub step_out : Step false m (g ∷ gs) gs g
  step_out = record {
    gates = omega arith;
    heavy = omega arith;
    split = omega arith;
    others = λ j e. measures-other g gs j e;
    none = λ e. old e;
    here = λ e. sym (ap (λ (k : ℕ). k - 1) (measures-here g gs e) ∙ minus (measures g.b gs));
    written = λ e. (λ i. cond ((ap (λ (k : ℕ). eqb k 0) (measures-here g gs e) ∙ never (measures g.b gs)) i || eqb (measures g.b gs) 0) (new e i - 1) (new e i))
        ∙ down (eqb (measures g.b gs) 0) (marks m writes gs);
  }
    where
      minus : (k : ℕ) → suc k - 1 ≡ k
      minus k = omega arith

      down : (c : Bool) (k : ℕ) → cond c (cond c 1 0 + k - 1) (cond c 1 0 + k) ≡ k
      down true k = omega arith
      down false k = omega arith
