-- What is counted so far and the count of the rest make the whole.
use Rattle.pauli_judge.proofs.Counted.{Counted}
use Rattle.pauli_judge.proofs.footprint.ProgramFootprint.of.Given as goal

abbrev pub invariant-loop-i : goal.invariant-loop-i
invariant-loop-i l = Counted l.words l.program.qubits l.program.bits l.i l.nodes l.splits l.written l.weight
