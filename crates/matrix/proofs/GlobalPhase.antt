-- Equality up to a global phase is what it says: y = u·x for some number u of modulus 1, whichever entry is the pivot.
use Rattle.std.specs.Prelude.{Ok, Err}
use mathlib.Core.Path.{◌≡◌, refl, sym, ap, ◌∙◌, subst}
use mathlib.Core.Bool.{Bool, true, false, cond, ◌&&◌}
use mathlib.Core.Logic.{◌≢◌, ◌↔◌, ⊎_elim}
use mathlib.Core.List.{List}
use Prim.Native.Nat.{ℕ, ◌+◌, ◌*◌, ◌<◌, ◌≤◌}
use native.Mathlib.Omega.{arith}
use lib.Dec.{T}
use lib.IntN.{ℤ}
use borrow.Author.Tests.{eq-eqb}
use Rattle.algebra.specs.Quadratic.{conjugate}
use Rattle.algebra.proofs.Tests.{and_split, all-at, all-by, test_same}
use Rattle.algebra.proofs.Semi.{Semi, mul-four, mul_left, zero-mul}
use Rattle.algebra.proofs.Ring.{semi}
use Rattle.algebra.proofs.Quadratic.{ℤ√2i}
use Rattle.algebra.proofs.Dyadic.{low-zero}
use Rattle.algebra.proofs.Domain.{ℤ√2i-domain, zero_fraction, cancel_fraction}
use Rattle.exact.specs.Exact.{Exact, exact, Number, numbers, root2, conj, lowest, equal, is_zero}
use Rattle.exact.proofs.Equal.{equal-true, equal_of}
use Rattle.exact.proofs.Exact.{exacts, exact_halving, conj-by, conj-conj, is_lowest_lem, mul-lowest}
use Rattle.verdict.specs.declared.Refusal.TheVariants.{TooLarge, Malformed}
use Rattle.exact.proofs.IsZero.{zero_is}
use Rattle.matrix.specs.declared.Phase.TheVariants.{Different}
use Rattle.matrix.proofs.Questions.{agreed}
use Rattle.matrix.proofs.First.{first_is, first-none}
use Rattle.matrix.specs.Phase.{◌·◌, zero_matrix, equal_modulus, equal_ratios, in_phase_at, pivot, in_phase, entry_of, well_formed_matrix, narrow_matrix, phase_answer, GlobalPhase, Meaning}

-- ---- a zero factor
zero-by : (x y : Exact) → is_zero x.num ≡ true → exact.◌⊗◌ x y ≡ exact.𝟘
zero-by x y e =
    ap (λ (z : Number). lowest z (x.exp + y.exp)) (ap (λ (z : Number). numbers.◌⊗◌ z y.num) (zero_is x.num e) ∙ zero-mul (semi ℤ√2i) y.num)
    ∙ low-zero ℤ√2i exact_halving (x.exp + y.exp)

-- ---- with x·b = y·a and p·b = q·a
module _ (𝓡 : Semi) (bar : 𝓡.R → 𝓡.R) (bar-mul : (x y : 𝓡.R) → bar (𝓡.ops.◌⊗◌ x y) ≡ 𝓡.ops.◌⊗◌ (bar x) (bar y)) where
  infixl 70 ◌⊗◌
  open 𝓡 use {R, mul_assoc, mul_comm}
  open 𝓡.ops use {◌⊗◌}

  cross : (x y p q a b : R) → x ⊗ b ≡ y ⊗ a → p ⊗ b ≡ q ⊗ a → (x ⊗ q) ⊗ a ≡ (y ⊗ p) ⊗ a
  cross x y p q a b e f =
      mul_assoc x q a ∙ ap (λ (z : R). x ⊗ z) (sym f) ∙ mul_left 𝓡 x p b ∙ ap (λ (z : R). p ⊗ z) e
      ∙ sym (mul_assoc p y a) ∙ ap (λ (z : R). z ⊗ a) (mul_comm p y)

  moduli : (p q a b : R) → p ⊗ b ≡ q ⊗ a → a ⊗ bar a ≡ b ⊗ bar b → (p ⊗ bar p) ⊗ (a ⊗ bar a) ≡ (q ⊗ bar q) ⊗ (a ⊗ bar a)
  moduli p q a b f m = ap (λ (z : R). (p ⊗ bar p) ⊗ z) m ∙ spread p b ∙ ap (λ (z : R). z ⊗ bar z) f ∙ sym (spread q a)
    where
      spread : (u v : R) → (u ⊗ bar u) ⊗ (v ⊗ bar v) ≡ (u ⊗ v) ⊗ bar (u ⊗ v)
      spread u v = mul-four 𝓡 u (bar u) v (bar v) ∙ ap (λ (z : R). (u ⊗ v) ⊗ z) (sym (bar-mul u v))

-- ---- the tests
zero-false : (z : Number) → is_zero z ≡ false → z ≢ numbers.𝟘
zero-false z e f = subst T (sym (ap is_zero f) ∙ e) tt

not-both : (b : Bool) → (b ≡ true → ⊥) → b ≡ false
not-both true h = absurd (h refl)
not-both false h = refl

-- ---- products of exact numbers
cancel_by : (a u v s t : Exact) → is_zero a.num ≡ false → (u · v) · a ≡ (s · t) · a → u · v ≡ s · t
cancel_by a u v s t h e =
    sym (is_lowest_lem (u · v) (mul-lowest u v)) ∙ cancel_fraction ℤ√2i exact_halving ℤ√2i-domain a (u · v) (s · t) (zero-false a.num h) e ∙ is_lowest_lem (s · t) (mul-lowest s t)

-- a·ā is not zero
modulus_by : (a : Exact) → is_zero a.num ≡ false → is_zero (a · conj a).num ≡ false
modulus_by a h =
    let s = a · conj a in
    not-both (is_zero s.num) (λ z. none (sym (is_lowest_lem s (mul-lowest a (conj a))) ∙ ap (λ (w : Number). lowest w s.exp) (zero_is s.num z) ∙ low-zero ℤ√2i exact_halving s.exp))
  where
    none : a · conj a ≡ exact.𝟘 → ⊥
    none e =
        zero-false a.num h
        (⊎_elim (λ z. z) (λ z. sym (ap (λ (x : Exact). x.num) (conj-conj a)) ∙ ap (conjugate root2) z) (zero_fraction ℤ√2i exact_halving ℤ√2i-domain a (conj a) e))

module _ (n : ℕ) (x y : ℕ → Exact) where
  pub at-phase : (i : ℕ) → is_zero (x i).num ≡ false → in_phase_at n x y i ≡ true → GlobalPhase n x y
  at-phase i h e =
      let p = and_split (equal_modulus (x i) (y i)) (equal_ratios n x y (x i) (y i)) e in
      record {
        a = x i;
        b = y i;
        nonzero = h;
        modulus = equal-true (x i · conj (x i)) (y i · conj (y i)) p.0;
        ratio = λ j l. equal-true (x j · y i) (y j · x i) (all-at n (λ (j : ℕ). equal (x j · y i) (y j · x i)) p.1 j l);
      }

  pub phase-at : GlobalPhase n x y → (i : ℕ) → i < n → in_phase_at n x y i ≡ true
  phase-at g i l =
      let a = g.a in
      let b = g.b in
      let m : equal_modulus (x i) (y i) ≡ true =
      equal_of (x i · conj (x i)) (y i · conj (y i))
      (cancel_by (a · conj a) (x i) (conj (x i)) (y i) (conj (y i)) (modulus_by a g.nonzero) (moduli exacts conj conj-by (x i) (y i) a b (g.ratio i l) g.modulus)) in
      let r : equal_ratios n x y (x i) (y i) ≡ true =
      all-by n (λ (j : ℕ). equal (x j · y i) (y j · x i))
      (λ j k. equal_of (x j · y i) (y j · x i) (cancel_by a (x j) (y i) (y j) (x i) g.nonzero (cross exacts conj conj-by (x j) (y j) (x i) (y i) a b (g.ratio j k) (g.ratio i l)))) in
      (λ t. m t && r t)

  pub zero-phase : zero_matrix n x ≡ true → GlobalPhase n x y → zero_matrix n y ≡ true
  zero-phase z g = all-by n (λ (i : ℕ). is_zero (y i).num) (λ i l.
      ⊎_elim (ap is_zero) (λ w. absurd (zero-false g.a.num g.nonzero w))
      (zero_fraction ℤ√2i exact_halving ℤ√2i-domain (y i) g.a (sym (g.ratio i l) ∙ zero-by (x i) g.b (all-at n (λ (i : ℕ). is_zero (x i).num) z i l))))

  pub phase-zero : zero_matrix n x ≡ true → zero_matrix n y ≡ true → GlobalPhase n x y
  phase-zero z w =
      record {
        a = exact.𝟙;
        b = exact.𝟙;
        nonzero = refl;
        modulus = refl;
        ratio = λ i l. zero-by (x i) exact.𝟙 (all-at n (λ (i : ℕ). is_zero (x i).num) z i l) ∙ sym (zero-by (y i) exact.𝟙 (all-at n (λ (i : ℕ). is_zero (y i).num) w i l));
      }

-- ---- the pivot
module _ (n : ℕ) (x : ℕ → Exact) where
  abbrev zero-at : ℕ → Bool
  zero-at i = is_zero (x i).num

  pivot_is : zero_matrix n x ≡ false → (pivot n x < n) × (is_zero (x (pivot n x)).num ≡ false)
  pivot_is = first_is n zero-at

  pivot-none : zero_matrix n x ≡ true → pivot n x ≡ n
  pivot-none = first-none n zero-at

module _ (n : ℕ) (x y : ℕ → Exact) where
  pub phase_is : in_phase n x y ≡ true ↔ GlobalPhase n x y
  phase_is = go (zero_matrix n x) refl
    where
      go : (b : Bool) → zero_matrix n x ≡ b → (cond b (zero_matrix n y) (in_phase_at n x y (pivot n x)) ≡ true) ↔ GlobalPhase n x y
      go true z = (phase-zero n x y z, zero-phase n x y z)
      go false z = let p = pivot_is n x z in (at-phase n x y (pivot n x) p.1, λ g. phase-at n x y g (pivot n x) p.0)

  -- the two arms, as code takes them
  pub phase-pivot : pivot n x < n → in_phase n x y ≡ in_phase_at n x y (pivot n x)
  phase-pivot h = go (zero_matrix n x) refl
    where
      go : (b : Bool) → zero_matrix n x ≡ b → cond b (zero_matrix n y) (in_phase_at n x y (pivot n x)) ≡ in_phase_at n x y (pivot n x)
      go true z = absurd (omega (arith, pivot-none n x z))
      go false z = refl

  pub phase-none : n ≤ pivot n x → in_phase n x y ≡ zero_matrix n y
  phase-none h = go (zero_matrix n x) refl
    where
      go : (b : Bool) → zero_matrix n x ≡ b → cond b (zero_matrix n y) (in_phase_at n x y (pivot n x)) ≡ zero_matrix n y
      go true z = refl
      go false z = absurd (omega (arith, (pivot_is n x z).0))

-- ---- the answer
answered-true : (b : Bool) → agreed b ≡ agreed true → b ≡ true
answered-true true e = refl
answered-true false e = cc

pub asked : (d : ℕ) (l m : List ℤ) → well_formed_matrix d l ≡ true → well_formed_matrix d m ≡ true → narrow_matrix d l ≡ true → narrow_matrix d m ≡ true
    → phase_answer d l d m ≡ agreed (in_phase (d * d) (entry_of l) (entry_of m))
asked d l m f g h k = λ i. cond (f i && g i) (cond (eq-eqb d d refl i) (cond (h i && k i) (agreed (in_phase (d * d) (entry_of l) (entry_of m))) (Err TooLarge)) (Ok Different)) (Err Malformed)

pub meaning : Meaning
meaning = record {
  exactly = λ d l m f g h k.
      let a = asked d l m f g h k in
      let p = phase_is (d * d) (entry_of l) (entry_of m) in
      (λ e. p.0 (answered-true (in_phase (d * d) (entry_of l) (entry_of m)) (sym a ∙ e)), λ e. a ∙ ap agreed (p.1 e));
  zero_only = λ n x y z. (zero-phase n x y z, phase-zero n x y z);
  any_pivot = λ n x y i l h. test_same (in_phase_at n x y i) (in_phase n x y) (λ e. (phase_is n x y).1 (at-phase n x y i h e)) (λ e. phase-at n x y ((phase_is n x y).0 e) i l);
}
