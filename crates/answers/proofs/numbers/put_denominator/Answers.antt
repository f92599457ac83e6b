-- `numbers::put_denominator` meets its contract.
use Rattle.text.proofs.Put.{text, then}
use Rattle.answers.proofs.Sums.{denominator-small, denominator_large}
use Rattle.answers.proofs.numbers.put_denominator.Goals as goal

pub returns-then-e-le-MAX_EXPONENT : goal.returns-then-e-le-MAX_EXPONENT
returns-then-e-le-MAX_EXPONENT c =
    text (denominator-small c.args.e c.if-e-le-MAX_EXPONENT.true) (then c.put.ensures c.put_decimal.ensures)

pub returns-else-e-le-MAX_EXPONENT : goal.returns-else-e-le-MAX_EXPONENT
returns-else-e-le-MAX_EXPONENT c =
    text (denominator_large c.args.e c.if-e-le-MAX_EXPONENT.false) (then c.put_all.ensures c.put_decimal-else-e-le-MAX_EXPONENT.ensures)
