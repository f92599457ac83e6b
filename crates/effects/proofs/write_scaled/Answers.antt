-- `write_scaled` meets its contract.
use mathlib.Core.Path.{ap, ◌∙◌}
use mathlib.Core.List.{List}
use Prim.Native.Nat.{◌-◌}
use native.Mathlib.Omega.{arith}
use lib.IntN.{ℤ}
use lib.Seq.{sets}
use Rattle.exact.specs.Exact.{Number, within, max_numerator, number_of, list_of}
use Rattle.exact.proofs.Align.{scaled_is, roomy}
use Rattle.exact.proofs.Sizes.{within_of}
use Rattle.effects.proofs.write_scaled.Goals as goal

pub scaled4-y-requires : goal.scaled4-y-requires
scaled4-y-requires c =
    let z = number_of c.args.x.n in
    let k = c.args.e - c.args.x.e in
    (omega (arith, c.requires.1.1.0), roomy _ (within_of max_numerator _ (ap (within max_numerator) (scaled_is z k) ∙ c.requires.1.1.1)))

pub returns : goal.returns
returns c =
    let s = c.args in
    c.write_numerators.ensures ∙ ap (λ (y : List ℤ). sets s.res.now s.at (list_of (number_of y))) c.scaled4-y.ensures
    ∙ ap (λ (z : Number). sets s.res.now s.at (list_of z)) (scaled_is (number_of s.x.n) (s.e - s.x.e))
