-- `numbers::put_sized` meets its contract.
use Rattle.text.proofs.Put.{text, then}
use Rattle.answers.proofs.Sums.{sized_is}
use Rattle.answers.proofs.numbers.put_sized.Goals as goal

pub returns-then-n-unit : goal.returns-then-n-unit
returns-then-n-unit c =
    text (sized_is c.args.n c.args.unit.now c.if-n-unit.true) c.put_all.ensures

pub returns-else-n-unit : goal.returns-else-n-unit
returns-else-n-unit c =
    text (sized_is c.args.n c.args.unit.now c.if-n-unit.false) (then c.put_decimal.ensures c.put_all-else-n-unit.ensures)
