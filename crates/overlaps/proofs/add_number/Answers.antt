-- `add_number` meets its contract.
use mathlib.Core.Path.{sym, ap, ◌∙◌, subst}
use mathlib.Core.List.{List}
use lib.Seq.{sets}
use lib.IntN.{ℤ}
use Rattle.algebra.specs.Quadratic.{conjugate}
use Rattle.exact.specs.Exact.{Number, numbers, number_of, list_of, root2, is_zero, max_numerator, narrow_numerator}
use Rattle.exact.specs.Inner.Sizes.{Within, room_numerator}
use Rattle.exact.proofs.Align.{roomy}
use Rattle.overlaps.specs.Inner.Overlap.{raised_at}
use Rattle.share.specs.Share.{number_in}
use Rattle.share.proofs.Numbers.{number-there}
use Rattle.overlaps.proofs.Sizes.{term-within}
use Rattle.overlaps.proofs.Numbers.{right-none}
use Rattle.overlaps.proofs.add_number.Goals as goal

pub returns-then-all_zero : goal.returns-then-all_zero
returns-then-all_zero c =
    let n = c.args in
    let z = sym (c.all_zero.ensures ∙ ap (λ (l : List ℤ). is_zero (number_of l)) c.read_raised-y.ensures) ∙ c.if-all_zero.true in
    sym (ap (λ (v : Number). sets n.res.now n.at (list_of v)) (right-none n.work.now n.s n.q n.res.now n.at (number_of n.x) z) ∙ number-there n.res.now n.at)

pub conj_product-p-requires : goal.conj_product-p-requires
conj_product-p-requires c = (c.requires.scale, subst (λ (l : List ℤ). Within narrow_numerator (number_of l)) (sym c.read_raised-y.ensures) c.requires.factor.narrow)

pub sum4-v-requires : goal.sum4-v-requires
sum4-v-requires c =
    let a = c.args in
    let y = raised_at a.s a.work.now a.q in (
      subst (λ (l : List ℤ). Within room_numerator (number_of l)) (sym c.numerators_at.ensures) (roomy (number_in a.res.now a.at) c.requires.sum),
      subst (λ (l : List ℤ). Within max_numerator (number_of l)) (sym c.conj_product-p.ensures)
          (subst (λ (l : List ℤ). Within max_numerator (numbers.◌⊗◌ (number_of a.x) (conjugate root2 (number_of l)))) (sym c.read_raised-y.ensures) (term-within (number_of a.x) y c.requires.scale c.requires.factor.narrow)),
    )
