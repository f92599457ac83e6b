-- `printer::put_gates` meets its contract.
use Rattle.algebra.specs.Lists.{concat_map}
use Rattle.gate.specs.Gate.{gates_of}
use Rattle.text.proofs.Put.{Left}
use Rattle.qasm.specs.Writing.{gate_text}
use Rattle.qasm_writer.proofs.Asked.{from}
use Rattle.qasm_writer.proofs.printer.put_gates.Given as goal

abbrev pub invariant-loop-i : goal.invariant-loop-i
invariant-loop-i l = Left l.initial.out (concat_map gate_text (gates_of l.words)) l.out (concat_map gate_text (from l.words l.i))
