-- `all_even` meets its contract: the low bit of the four words joined.
use Rattle.exact.proofs.Sizes.{even-bits}
use Rattle.exact.proofs.ranges.all_even.Goals as goal

pub returns : goal.returns
returns c = even-bits c.args.x c.result-1.given c.result-2-1.given c.result-3-1.given c.result-4-1.given
