-- Sums of scalars with a verdict at each step: the partial sums, in range as long as each step is accepted.
use Rattle.std.specs.Prelude.{Ok, Err, is_ok, is_err}
use Rattle.std.specs.Result.{result_unwrap_or}
use mathlib.Core.Path.{◌≡◌, refl, sym, ap, ◌∙◌}
use mathlib.Core.Bool.{Bool, true, false, cond, ◌&&◌, true≢false}
use Prim.Native.Nat.{ℕ, zero, suc, ◌+◌, ◌*◌, ◌/◌, ◌%◌, ◌≤◌, ◌<◌}
use native.Mathlib.Nat.{div-lt_iff_lt-mul, mod-lt}
use native.Mathlib.Numerals.{add-one}
use native.Mathlib.Omega.{arith}
use lib.Arith.{digits_lt}
use Rattle.algebra.specs.Sum.{sum}
use Rattle.algebra.proofs.Tests.{all-at, all-step, all_no}
use Rattle.exact.specs.Exact.{Exact, exact, in_range, well_formed}
use Rattle.exact.proofs.Exact.{add-lowest}
use Rattle.scalar.specs.declared.Scalar.{Scalar}
use Rattle.verdict.specs.declared.Refusal.{Refusal}
use Rattle.verdict.specs.declared.Refusal.TheVariants.{TooLarge, Malformed}
use Rattle.scalar.specs.Calls.{Answer, value, scalar_of, accepted, fitting, add_answer}
use Rattle.channel.specs.Layout.{side, effect_place}
use Rattle.channel.proofs.Words.{square_small}
use Rattle.effects.specs.Effects.{partials_fit}
use Rattle.effects.specs.Inner.Readable.{Dim}

-- ---- the places that are summed
module _ (d i : ℕ) (m : Dim d) (h : i < d * d) where
  pub row_below : i / d < d
  row_below = (div-lt_iff_lt-mul m.some).1 h

  pub col_below : i % d < d
  col_below = mod-lt i m.some

pub place_below : (d r c o : ℕ) → r < d → c < d → o < d → effect_place d r c o < side d * side d
place_below d r c o p q k = digits_lt (digits_lt k p) (digits_lt k q)

pub dim_square : {d : ℕ} → Dim d → d * d ≤ 256
dim_square {d} m = square_small d m.small

-- ---- one sum
module _ (x y : Exact) (a : Answer) (p : well_formed x ≡ true) (q : well_formed y ≡ true) (e : a ≡ add_answer x y) where
  is_fitting : a ≡ fitting (exact.◌⊕◌ x y)
  is_fitting = e ∙ (λ i. cond (p i && q i) (fitting (exact.◌⊕◌ x y)) (Err Malformed))

-- a test that refuses, and one that hands its number on
refused_fit : (b : Bool) (x : Exact) {r : Refusal} → Err r ≡ cond b (accepted x) (Err TooLarge) → b ≡ false
refused_fit true x e = absurd (true≢false (sym (ap is_ok e)))
refused_fit false x e = refl

handed_fit : (b : Bool) (x : Exact) {v : Scalar} → Ok v ≡ cond b (accepted x) (Err TooLarge) → (b ≡ true) × (v ≡ scalar_of x)
handed_fit true x {v = v} e = (refl, ap (λ (a : Answer). result_unwrap_or a v) e)
handed_fit false x e = absurd (true≢false (ap is_ok e))

-- ---- a sum whose partial sums are in range
pub sum-formed : (f : ℕ → Exact) (o : ℕ) → partials_fit o f ≡ true → well_formed (sum exact o f) ≡ true
sum-formed f zero e = refl
sum-formed f (suc o) e = λ i. all-at (suc o) (λ (m : ℕ). in_range (sum exact (suc m) f)) e o (omega arith) i && add-lowest (sum exact o f) (f o) i

-- ---- the answer of a sum, by whether its partial sums fit
abbrev pub answer_of : (ℕ → Exact) → ℕ → Answer
answer_of f d = cond (partials_fit d f) (accepted (sum exact d f)) (Err TooLarge)

pub answer_unfit : (f : ℕ → Exact) (d : ℕ) {a : Answer} → a ≡ answer_of f d → is_err a ≡ true → partials_fit d f ≡ false
answer_unfit f d e t = by (partials_fit d f) (sym (ap is_err e) ∙ t)
  where
    by : (b : Bool) → is_err (cond b (accepted (sum exact d f)) (Err TooLarge)) ≡ true → b ≡ false
    by true t = sym t
    by false t = refl

pub answer-value : (f : ℕ → Exact) (d : ℕ) {a : Answer} → a ≡ answer_of f d → partials_fit d f ≡ true → a ≡ accepted (sum exact d f)
answer-value f d e t = e ∙ ap (λ (b : Bool). cond b (accepted (sum exact d f)) (Err TooLarge)) t

-- ---- acc is the sum of the first o terms, and all sums up to it are in range
pub record Summed (f : ℕ → Exact) (o : ℕ) (acc : Scalar) : Type 0 where
  pub is : acc ≡ scalar_of (sum exact o f)
  pub fit : partials_fit o f ≡ true

module _ (f : ℕ → Exact) {o : ℕ} {acc : Scalar} (s : Summed f o acc) {x : Scalar} (q : well_formed (f o) ≡ true) (r : x ≡ scalar_of (f o)) where
  next : {a : Answer} → a ≡ add_answer (value acc) (value x) → a ≡ fitting (sum exact (suc o) f)
  next {a} e = is_fitting (sum exact o f) (f o) a (sum-formed f o s.fit) q (e ∙ (λ i. add_answer (value (s.is i)) (value (r i))))

  pub stops : (d : ℕ) → o < d → {e : Refusal} → Err e ≡ add_answer (value acc) (value x) → Err e ≡ answer_of f d
  stops d h e =
      let t = refused_fit (in_range (sum exact (suc o) f)) _ (next e) in
      next e ∙ ap (λ (b : Bool). cond b (accepted (sum exact (suc o) f)) (Err TooLarge)) t
      ∙ sym (ap (λ (b : Bool). cond b (accepted (sum exact d f)) (Err TooLarge)) (all_no d o (λ (m : ℕ). in_range (sum exact (suc m) f)) h t))

  pub goes_on : {v : Scalar} → Ok v ≡ add_answer (value acc) (value x) → Summed f (o + 1) v
  goes_on e =
      let (t, z) = handed_fit (in_range (sum exact (suc o) f)) _ (next e) in
      record { is = z ∙ ap (λ (m : ℕ). scalar_of (sum exact m f)) (sym (add-one o)); fit = all-step o (λ (m : ℕ). in_range (sum exact (suc m) f)) s.fit t }
