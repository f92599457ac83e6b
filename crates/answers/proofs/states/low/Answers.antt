-- `states::low` meets its contract.
use mathlib.Core.Path.{ap}
use Prim.Native.Nat.{ℕ, ◌%◌}
use native.Mathlib.Omega.{arith}
use lib.Pow.{pow_pos}
use Rattle.answers.proofs.Bits.{power, low-all}
use Rattle.answers.proofs.states.low.Goals as goal

pub returns : goal.returns
returns c = low-all c.args.x c.args.k c.ranges.x.fits c.if-k-lt-BITS.false
