-- The invariant: no gate passed so far writes the bit, so the answer is that of the rest.
use mathlib.Core.Path.{◌≡◌}
use mathlib.Core.Bool.{Bool}
use mathlib.Core.List.{List}
use Prim.Native.Nat.{ℕ}
use Rattle.algebra.specs.Lists.{some}
use Rattle.gate.specs.Gate.{Gate}
use Rattle.circuit.specs.Footprint.{writes}
use Rattle.circuit.specs.Inner.Footprint.{gates_behind}
use Rattle.circuit.proofs.footprint.is_written.Given as goal

abbrev pub had : List ℕ → ℕ → ℕ → Bool
had ws bit i = some (λ (g : Gate). writes g bit) (gates_behind ws i)

abbrev pub invariant-loop-i : goal.invariant-loop-i
invariant-loop-i l = had l.words l.bit l.first ≡ had l.words l.bit l.i
