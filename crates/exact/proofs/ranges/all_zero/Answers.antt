-- `all_zero` meets its contract: the four words joined.
use Rattle.exact.specs.Exact.{number_of}
use Rattle.exact.proofs.IsZero.{union-zero}
use Rattle.exact.proofs.ranges.all_zero.Goals as goal

pub returns : goal.returns
returns c = union-zero (number_of c.args.x) c.result-1.given c.result-2-1.given c.result-3-1.given c.result-4-1.given
