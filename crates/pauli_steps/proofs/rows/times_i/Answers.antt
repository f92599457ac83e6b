-- Two signs, and each part in the other's place.
use mathlib.Core.Path.{ap, ◌∙◌}
use native.Mathlib.Omega.{arith}
use Rattle.algebra.proofs.Signed.{back, neg_back}
use Rattle.exact.specs.Exact.{number, number_of, list_of}
use Rattle.pauli_steps.proofs.Tables.{by_i_is}
use Rattle.pauli_steps.proofs.rows.times_i.Goals as goal

pub returns : goal.returns
returns c =
    let z = number_of c.args.x in
    let p0 = neg_back z.im.re (omega (arith, c.requires.w2)) in
    let p1 = neg_back z.im.im (omega (arith, c.requires.w3)) in
    let p2 = back z.re.re (omega (arith, c.requires.w0)) in
    let p3 = back z.re.im (omega (arith, c.requires.w1)) in
    ap list_of ((λ i. number (p0 i) (p1 i) (p2 i) (p3 i)) ∙ by_i_is z)
