-- `numbers::put_number` meets its contract.
use Rattle.text.proofs.Put.{text, then}
use Rattle.exact.specs.Exact.{number_of}
use Rattle.answers.proofs.Sums.{fraction_whole, fraction_parts}
use Rattle.answers.proofs.numbers.put_number.Goals as goal

pub returns-then-x-eq0 : goal.returns-then-x-eq0
returns-then-x-eq0 c = text (fraction_whole (number_of c.args.x.n) c.args.x.e c.if-x-eq0.true) c.put_sum.ensures

pub returns-else-x-eq0 : goal.returns-else-x-eq0
returns-else-x-eq0 c = text (fraction_parts (number_of c.args.x.n) c.args.x.e c.if-x-eq0.false) (then c.put_numerator.ensures c.put_denominator.ensures)
