-- `aligned_sum` meets its contract.
use mathlib.Core.Path.{ap, ◌∙◌}
use mathlib.Core.List.{List}
use lib.IntN.{ℤ}
use Rattle.algebra.specs.Dyadic.{frac}
use Rattle.exact.specs.Exact.{numbers, lowest, number_of}
use Rattle.exact.proofs.Align.{aligned}
use Rattle.scalar.specs.Calls.{scalar_of}
use Rattle.scalar.proofs.numerators.aligned_sum.Goals as goal

pub returns : goal.returns
returns c =
    let f = c.args.f in
    let y = number_of c.args.y in
    c.reduce.ensures
    ∙ ap (λ (l : List ℤ). scalar_of (lowest (number_of l) f)) c.sum4.ensures
    ∙ ap (λ (l : List ℤ). scalar_of (lowest (numbers.◌⊕◌ (number_of l) y) f)) c.scaled4.ensures
    ∙ ap scalar_of (aligned (frac (number_of c.args.x) c.args.e) (frac y f) c.requires.0)
