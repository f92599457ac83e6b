-- `Scalar::equals` meets its contract.
use mathlib.Core.Path.{◌∙◌}
use Rattle.scalar.proofs.Same.{same_number}
use Rattle.scalar.proofs.Scalar.equals.Goals as goal

pub returns : goal.returns
returns c =
    let x = c.args.self in
    let y = c.args.other in
    c.eq.ensures ∙ same_number x.n y.n x.e y.e c.well_formed.0.1.1.0.1.0.1 c.well_formed.1.0.1.1.0.1.0.1
