-- `scaled4` meets its contract.
use mathlib.Core.List.{[], ◌∷◌}
use native.Mathlib.Omega.{arith}
use Rattle.algebra.proofs.Signed.{scale_back}
use Rattle.exact.specs.Exact.{number_of}
use Rattle.exact.proofs.numerators.scaled4.Goals as goal

pub returns : goal.returns
returns c =
    let p0 = scale_back (number_of c.args.x).re.re c.args.d c.result-1.given (omega arith) (omega arith) in
    let p1 = scale_back (number_of c.args.x).re.im c.args.d c.result-2-1.given (omega arith) (omega arith) in
    let p2 = scale_back (number_of c.args.x).im.re c.args.d c.result-3-1.given (omega arith) (omega arith) in
    let p3 = scale_back (number_of c.args.x).im.im c.args.d c.result-4-1.given (omega arith) (omega arith) in
    λ i. p0 i ∷ p1 i ∷ p2 i ∷ p3 i ∷ []
