-- `numbers::put_numerator` meets its contract.
use mathlib.Core.Path.{sym, ◌∙◌}
use Rattle.text.proofs.Put.{text, then}
use Rattle.exact.specs.Exact.{number_of}
use Rattle.answers.proofs.Sums.{numerator_is}
use Rattle.answers.proofs.numbers.put_numerator.Goals as goal

pub returns-then-is_sum : goal.returns-then-is_sum
returns-then-is_sum c =
    text (numerator_is (number_of c.args.n) (sym c.is_sum.ensures ∙ c.if-is_sum.true)) (then (then c.put.ensures c.put_sum.ensures) c.put-then-is_sum.ensures)

pub returns-else-is_sum : goal.returns-else-is_sum
returns-else-is_sum c = text (numerator_is (number_of c.args.n) (sym c.is_sum.ensures ∙ c.if-is_sum.false)) c.put_sum-else-is_sum.ensures
