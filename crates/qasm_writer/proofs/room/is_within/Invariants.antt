-- `room::is_within` meets its contract.
use mathlib.Core.Path.{◌≡◌}
use lib.Dec.{leb}
use lib.ListN.{length}
use Rattle.gate.specs.Gate.{gates_of}
use Rattle.qasm.specs.Writing.{written}
use Rattle.qasm_writer.proofs.Lengths.{bytes_from}
use Rattle.qasm_writer.proofs.room.is_within.Given as goal

abbrev pub invariant-loop-i : goal.invariant-loop-i
invariant-loop-i l = leb (length (written l.qubits l.bits (gates_of l.words))) l.bytes ≡ leb (bytes_from l.words l.i) l.left
