-- `matrix::global_phase::Pair::ratios_same` meets its contract.
use mathlib.Core.Path.{◌≡◌}
use mathlib.Core.Bool.{true}
use Rattle.scalar.specs.Calls.{value}
use Rattle.matrix.specs.Phase.{equal_ratios, entry_of}
use Rattle.matrix.proofs.global_phase.Pair.ratios_same.Given as goal

abbrev pub invariant-loop-j : goal.invariant-loop-j
invariant-loop-j l = equal_ratios l.j (entry_of l.self.left.now) (entry_of l.self.right.now) (value l.a) (value l.b) ≡ true
