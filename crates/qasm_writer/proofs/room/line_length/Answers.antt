-- `room::line_length` meets its contract.
use mathlib.Core.Path.{ap}
use native.Mathlib.Omega.{arith}
use lib.ListN.{length}
use Rattle.gate.specs.Inner.Words.{gate_of}
use Rattle.qasm_writer.proofs.Lines.{gate_hidden}
use Rattle.qasm_writer.proofs.Lengths.{line_count}
use Rattle.qasm_writer.proofs.room.line_length.Goals as goal

pub overflow_add-result : goal.overflow_add-result
overflow_add-result c = omega (arith, c.in-Some.ensures.1)

pub overflow_add-result-in-Some : goal.overflow_add-result-in-Some
overflow_add-result-in-Some c = omega (arith, c.in-Some.ensures.1, c.decimal_length.ensures.few)

pub overflow_add-result-in-Some-2 : goal.overflow_add-result-in-Some-2
overflow_add-result-in-Some-2 c = omega (arith, c.in-Some.ensures.1, c.decimal_length.ensures.few, c.others_length.ensures.few)

pub returns-in-Some : goal.returns-in-Some
returns-in-Some c = line_count (gate_of c.args.g) c.in-Some.name.now c.in-Some.ensures.0 c.decimal_length.ensures.value c.others_length.ensures.value

pub returns-in-None : goal.returns-in-None
returns-in-None c = ap length (gate_hidden (gate_of c.args.g) c.in-None.ensures)
