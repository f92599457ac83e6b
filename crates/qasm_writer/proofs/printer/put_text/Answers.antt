-- `printer::put_text` meets its contract.
use Rattle.gate.specs.Gate.{gates_of}
use Rattle.text.proofs.Put.{then, text}
use Rattle.qasm_writer.proofs.Lines.{head-then}
use Rattle.qasm_writer.proofs.printer.put_text.Goals as goal

pub returns : goal.returns
returns c =
    let a = c.args in
    text (head-then a.qubits a.bits (gates_of a.words.now)) (then c.put_head.ensures c.put_gates.ensures)
