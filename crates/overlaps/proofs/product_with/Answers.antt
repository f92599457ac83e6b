-- `product_with` meets its contract.
use mathlib.Core.Path.{sym, ap, ◌∙◌}
use Rattle.algebra.specs.Quadratic.{conjugate}
use Rattle.algebra.proofs.Ring.{mul_zero}
use Rattle.algebra.proofs.Quadratic.{ℤ√2i}
use Rattle.exact.specs.Exact.{Number, numbers, number_of, list_of, root2}
use Rattle.exact.proofs.IsZero.{zero_is}
use Rattle.overlaps.proofs.product_with.Goals as goal

pub returns-then-all_zero : goal.returns-then-all_zero
returns-then-all_zero c =
    let a = c.args in
    sym (ap list_of (ap (λ (y : Number). numbers.◌⊗◌ (number_of a.x) (conjugate root2 y)) (zero_is (number_of a.y) (sym c.all_zero.ensures ∙ c.if-all_zero.true)) ∙ mul_zero ℤ√2i (number_of a.x)))
