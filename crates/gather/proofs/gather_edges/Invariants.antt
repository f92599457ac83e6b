-- `gather_edges` meets its contract: what is gathered so far is what is gathered from i words.
use mathlib.Core.Path.{◌≡◌}
use mir.Syntax.{w64}
use Rattle.gather.specs.Inner.Gathered.{edges}
use mir.Val.{of_z}
use Rattle.gather.proofs.gather_edges.Given as goal

abbrev pub invariant-loop-x : goal.invariant-loop-x
invariant-loop-x l = of_z w64 l.g ≡ edges l.s 0 l.x-index
