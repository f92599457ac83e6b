-- `reduce` meets its contract.
use mathlib.Core.Path.{ap, sym, ◌∙◌}
use Prim.Native.Nat.{ℕ, ◌-◌, ◌%◌, ◌^◌}
use lib.Count.{count_trailing_zeros}
use mir.Syntax.{w64}
use mir.Val.{SFits}
use mir.Facts.{to_z-of_z}
use Rattle.algebra.specs.Dyadic.{frac}
use Rattle.algebra.proofs.Signed.{shift_back}
use Rattle.exact.specs.Exact.{number, number_of}
use Rattle.exact.proofs.Zeros.{union, shifted, by_count}
use Rattle.scalar.specs.Calls.{scalar_of}
use Rattle.scalar.proofs.numerators.reduce.Goals as goal

pub returns : goal.returns
returns c =
    let z = number_of c.args.x in
    let e = c.args.e in
    let k = c.min-k.result in
    let fa : SFits w64 z.re.re = record { sfits = c.a-1.given } in
    let fb : SFits w64 z.re.im = record { sfits = c.b-1.given } in
    let fc : SFits w64 z.im.re = record { sfits = c.c-1.given } in
    let fd : SFits w64 z.im.im = record { sfits = c.d-1.given } in
    (λ i. scalar_of (frac (number (shift_back z.re.re (2 ^ k) fa i) (shift_back z.re.im (2 ^ k) fb i) (shift_back z.im.re (2 ^ k) fc i) (shift_back z.im.im (2 ^ k) fd i)) (e - k)))
    ∙ ap (λ (k : ℕ). scalar_of (frac (shifted z k) (e - k))) c.min-k.ensures
    ∙ ap scalar_of (sym (by_count z.re.re z.re.im z.im.re z.im.im e c.common_zeros.result fa fb fc fd c.requires
    (c.common_zeros.ensures ∙ (λ i. count_trailing_zeros 64 (union (to_z-of_z fa i) (to_z-of_z fb i) (to_z-of_z fc i) (to_z-of_z fd i) % 2 ^ 63)))))
