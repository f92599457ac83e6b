-- `room::others_length` meets its contract.
use mathlib.Core.Path.{sym, ap, ◌∙◌}
use Prim.Native.Nat.{◌+◌}
use native.Mathlib.Omega.{arith}
use lib.Dec.{leb}
use lib.ListN.{length, length-append}
use Rattle.gate.specs.Inner.Words.{gate_of}
use Rattle.qasm_writer.specs.Inner.Print.{qubit_if}
use Rattle.qasm_writer.proofs.Lines.{others-qubits}
use Rattle.qasm_writer.proofs.room.others_length.Goals as goal

pub returns-in-None : goal.returns-in-None
returns-in-None c =
    let g = c.args.g in
    let n = c.qubit_count-count.result in
    let x = c.qubit_length.ensures in
    let y = c.qubit_length-in-None.ensures in
    record {
      value =
          (λ i. x.value i + y.value i) ∙ sym (length-append (qubit_if (leb 2 n) g.b) (qubit_if (leb 3 n) g.c))
          ∙ ap length (others-qubits (gate_of g) (sym c.bit.ensures ∙ c.in-None.is) c.qubit_count-count.ensures.value);
      few = omega (arith, x.few, y.few);
    }
