-- The invariant: no gate before j shares with gate i.
use mathlib.Core.Path.{◌≡◌}
use mathlib.Core.Bool.{false}
use Prim.Native.Nat.{◌-◌}
use Rattle.circuit.specs.Inner.Firing.{any_from, sharing}
use Rattle.circuit.proofs.layers.shares_from.Given as goal

abbrev pub invariant-loop-j : goal.invariant-loop-j
invariant-loop-j l = any_from l.start (l.j - l.start) (sharing l.words l.i) ≡ false
