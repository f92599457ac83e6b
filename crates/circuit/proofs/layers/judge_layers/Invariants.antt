-- The invariant: so many layers are passed, and no gate of theirs clashes.
use Rattle.circuit.proofs.Firing.{Passing}
use Rattle.circuit.proofs.layers.judge_layers.Given as goal

abbrev pub invariant-loop-e : goal.invariant-loop-e
invariant-loop-e l = Passing l.words l.ends l.start l.e-index
