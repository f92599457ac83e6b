-- `states::high` meets its contract.
use Rattle.answers.proofs.Bits.{high_none}
use Rattle.answers.proofs.states.high.Goals as goal

pub returns : goal.returns
returns c = high_none c.args.x c.args.k c.ranges.x.fits c.if-k-lt-BITS.false
