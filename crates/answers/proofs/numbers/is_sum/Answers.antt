-- `numbers::is_sum` meets its contract.
use native.Mathlib.Omega.{arith}
use Rattle.exact.specs.Exact.{number_of}
use Rattle.answers.proofs.Sums.{fitting, counted_read}
use Rattle.answers.proofs.numbers.is_sum.Goals as goal

pub returns : goal.returns
returns c =
    let fit = fitting (number_of c.args.n) (omega arith) (omega arith) (omega arith) (omega arith) in
    counted_read _ fit c.count_of.ensures.value c.count_of-2.ensures.value c.count_of-3.ensures.value c.count_of-4.ensures.value
