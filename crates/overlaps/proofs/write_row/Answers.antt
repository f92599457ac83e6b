-- `write_row` meets its contract.
use mathlib.Core.Path.{sym, ap, ◌∙◌, subst}
use mathlib.Core.List.{List}
use native.Mathlib.Nat.{le_refl}
use lib.IntN.{ℤ}
use Rattle.algebra.specs.Quadratic.{conjugate}
use Rattle.algebra.proofs.Blocks.{begin, again}
use Rattle.exact.specs.Exact.{numbers, number_of, list_of, root2, narrow_numerator}
use Rattle.exact.specs.Inner.Sizes.{Within}
use Rattle.overlaps.proofs.write_row.Goals as goal

pub loop-c-init : goal.loop-c-init
loop-c-init c = begin (λ k. le_refl 4)

pub product_with-p-requires : goal.product_with-p-requires
product_with-p-requires c =
    (c.requires.scale, subst (λ (l : List ℤ). Within narrow_numerator (number_of l)) (sym c.read_raised.ensures) (c.requires.factors c.loop-c.c c.loop-c-test.true).narrow)

pub loop-c-preserved : goal.loop-c-preserved
loop-c-preserved c =
    again c.loop-c.invariant c.loop-c-test.true c.write_numerators.ensures
    (ap (λ (l : List ℤ). list_of (number_of l)) c.product_with-p.ensures ∙ ap (λ (l : List ℤ). list_of (numbers.◌⊗◌ (number_of c.args.x) (conjugate root2 (number_of l)))) c.read_raised.ensures)
