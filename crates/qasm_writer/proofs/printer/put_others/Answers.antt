-- `printer::put_others` meets its contract.
use mathlib.Core.Path.{sym, ◌∙◌}
use Rattle.gate.specs.Inner.Words.{gate_of}
use Rattle.text.proofs.Put.{then, text}
use Rattle.qasm_writer.proofs.Lines.{others-qubits}
use Rattle.qasm_writer.proofs.printer.put_others.Goals as goal

pub returns-in-None : goal.returns-in-None
returns-in-None c =
    text (others-qubits (gate_of c.args.g) (sym c.bit.ensures ∙ c.in-None.is) c.qubit_count-count.ensures.value) (then c.put_qubit.ensures c.put_qubit-in-None.ensures)
