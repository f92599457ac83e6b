-- The questions that a call asks, answered one way or the other.
use Rattle.std.specs.Prelude.{Err}
use mathlib.Core.Path.{◌≡◌, ap, sym, ◌∙◌}
use mathlib.Core.Bool.{Bool, true, false, cond, not, ◌&&◌}
use borrow.Author.Tests.{not-false}
use Rattle.exact.specs.Exact.{Exact, exact, in_range, well_formed, narrow}
use Rattle.verdict.specs.declared.Refusal.TheVariants.{TooLarge, Malformed}
use Rattle.scalar.specs.Calls.{Answer, accepted, fitting, asked, asked_both, mul_answer}

module _ (x : Exact) (a : Answer) where
  pub asked-yes : well_formed x ≡ true → asked x a ≡ a
  asked-yes h = ap (λ (b : Bool). cond b a (Err Malformed)) h

-- one operand, as code asks it
module _ (x : Exact) {b : Bool} (e : b ≡ well_formed x) where
  pub formed : not b ≡ false → well_formed x ≡ true
  formed t = sym e ∙ not-false b t

pub too_large : (x : Exact) → in_range x ≡ false → fitting x ≡ Err TooLarge
too_large x h = ap (λ (b : Bool). cond b (accepted x) (Err TooLarge)) h

module _ (x y : Exact) where
  pub both_yes : (a : Answer) → (well_formed x && well_formed y) ≡ true → asked_both x y a ≡ a
  both_yes a h = ap (λ (b : Bool). cond b a (Err Malformed)) h

  -- the answer of a product whose operands are well formed
  abbrev product : Bool → Answer
  product b = cond b (accepted (exact.◌⊗◌ x y)) (Err TooLarge)

  pub mul-yes : (well_formed x && well_formed y) ≡ true → (narrow x && narrow y) ≡ true → mul_answer x y ≡ accepted (exact.◌⊗◌ x y)
  mul-yes g h = λ i. cond (g i) (product (h i)) (Err Malformed)
