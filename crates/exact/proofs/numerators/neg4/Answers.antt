-- `neg4` meets its contract.
use mathlib.Core.List.{[], ◌∷◌}
use native.Mathlib.Omega.{arith}
use Rattle.algebra.proofs.Signed.{neg_back}
use Rattle.exact.specs.Exact.{number_of}
use Rattle.exact.proofs.numerators.neg4.Goals as goal

pub returns : goal.returns
returns c =
    let p0 = neg_back (number_of c.args.x).re.re (omega (arith, c.requires.w0)) in
    let p1 = neg_back (number_of c.args.x).re.im (omega (arith, c.requires.w1)) in
    let p2 = neg_back (number_of c.args.x).im.re (omega (arith, c.requires.w2)) in
    let p3 = neg_back (number_of c.args.x).im.im (omega (arith, c.requires.w3)) in
    λ i. p0 i ∷ p1 i ∷ p2 i ∷ p3 i ∷ []
