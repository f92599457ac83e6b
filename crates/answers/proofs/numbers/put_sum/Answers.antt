-- `numbers::put_sum` meets its contract.
use native.Mathlib.Omega.{arith}
use Rattle.exact.specs.Exact.{number_of}
use Rattle.text.proofs.Put.{text}
use Rattle.answers.proofs.Sums.{fitting, none_read, sum_read}
use Rattle.answers.proofs.numbers.put_sum.Goals as goal

pub returns-then-h-is_absent : goal.returns-then-h-is_absent
returns-then-h-is_absent c =
    let fit = fitting (number_of c.args.n) (omega arith) (omega arith) (omega arith) (omega arith) in
    text (none_read _ fit c.is_absent-f.ensures c.is_absent.ensures c.is_absent-2.ensures c.is_absent-3.ensures c.if-h-is_absent.true) c.put.ensures

pub returns-else-h-is_absent : goal.returns-else-h-is_absent
returns-else-h-is_absent c =
    let fit = fitting (number_of c.args.n) (omega arith) (omega arith) (omega arith) (omega arith) in
    sum_read _ fit c.is_absent-f.ensures c.is_absent.ensures c.is_absent-2.ensures c.is_absent-3.ensures c.if-h-is_absent.false
    c.put_term.ensures c.put_term-else-h-is_absent.ensures c.put_term-else-h-is_absent-2.ensures c.put_term-else-h-is_absent-3.ensures
