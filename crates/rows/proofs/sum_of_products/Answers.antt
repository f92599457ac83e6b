-- `sum_of_products` meets its contract.
use mathlib.Core.Path.{sym, ap, ◌∙◌, subst₂}
use mathlib.Core.List.{List}
use lib.IntN.{ℤ}
use Rattle.exact.specs.Exact.{numbers, number_of, max_numerator}
use Rattle.exact.specs.Inner.Sizes.{Within, room_numerator}
use Rattle.rows.proofs.Rows.{sum_fits}
use Rattle.rows.proofs.sum_of_products.Goals as goal

pub sum4-requires : goal.sum4-requires
sum4-requires c =
    let a = c.args in
    let r = c.requires in
    subst₂ (λ (p q : List ℤ). Within room_numerator (number_of p) × Within max_numerator (number_of q)) (sym c.product.ensures) (sym c.product-2.ensures)
    (sum_fits (number_of a.x) (number_of a.s) (number_of a.y) (number_of a.t) r.0.0 r.0.1 r.1.0 r.1.1)

pub returns : goal.returns
returns c = ap number_of c.sum4.ensures ∙ (λ i. numbers.◌⊕◌ (number_of (c.product.ensures i)) (number_of (c.product-2.ensures i)))
