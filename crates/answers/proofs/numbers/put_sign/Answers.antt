-- `numbers::put_sign` meets its contract.
use Rattle.text.proofs.Put.{text, none}
use Rattle.answers.proofs.Sums.{sign_is}
use Rattle.answers.proofs.numbers.put_sign.Goals as goal

pub returns-else-z-lt0 : goal.returns-else-z-lt0
returns-else-z-lt0 c = text (sign_is c.args.first c.args.z c.ranges.z c.if-first.true c.if-z-lt0.false) (none _)
