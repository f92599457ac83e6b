-- `raise` meets its contract.
use mathlib.Core.Path.{ap}
use Prim.Native.Nat.{◌+◌, ◌*◌, ◌-◌}
use native.Mathlib.Omega.{arith}
use lib.ListN.{get_or}
use lib.IntN.{ℤ, pos, nat_abs}
use Rattle.algebra.proofs.Signed.{back, word_is}
use Rattle.exact.specs.Exact.{narrow_exponent}
use Rattle.overlaps.proofs.raise.Goals as goal

pub returns : goal.returns
returns c =
    let a = c.args in
    let x = get_or a.work.now (a.k + a.w * 4) (pos 0) in
    ap (λ (z : ℤ). a.e - nat_abs z) (back x (omega (arith, (word_is narrow_exponent x c.requires.factors.exponent).1)))
