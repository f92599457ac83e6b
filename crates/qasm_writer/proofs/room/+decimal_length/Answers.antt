-- A number from 10 on has a digit more than its tenth.
use mathlib.Core.Path.{sym}
use native.Mathlib.Omega.{arith}
use Rattle.qasm_writer.proofs.Lengths.{decimal-most, length-one, length_more}
use Rattle.qasm_writer.proofs.room.+decimal_length.Goals as goal

pub returns-then-n-lt10 : goal.returns-then-n-lt10
returns-then-n-lt10 t c = record { value = sym (length-one c.args.n c.if-n-lt10.true); few = omega arith }

pub returns-else-n-lt10 : goal.returns-else-n-lt10
returns-else-n-lt10 t c =
    let more = length_more c.args.n c.if-n-lt10.false (omega arith) in
    record { value = omega (arith, more); few = omega (arith, more, decimal-most c.args.n) }
