-- The invariant: what is counted so far and the count of the rest make the whole.
use Rattle.circuit.proofs.Counts.{Counted}
use Rattle.circuit.proofs.footprint.Footprint.of.Given as goal

abbrev pub invariant-loop-i : goal.invariant-loop-i
invariant-loop-i l = Counted l.words l.bits l.i l.splits l.written l.weight
