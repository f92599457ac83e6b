-- The invariant: the ends passed so far rise, so the rest decides.
use mathlib.Core.Path.{◌≡◌}
use lib.ListN.{drop}
use Rattle.circuit.specs.Layers.{closing}
use Rattle.circuit.proofs.layers.are_closing.Given as goal

abbrev pub invariant-loop-e : goal.invariant-loop-e
invariant-loop-e l = closing l.count 0 l.ends ≡ closing l.count l.last (drop l.e-index l.ends)
