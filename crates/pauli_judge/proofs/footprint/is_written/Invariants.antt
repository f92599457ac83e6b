-- No operation passed so far writes the bit, so the answer is that of the rest.
use mathlib.Core.Path.{◌≡◌}
use mathlib.Core.Bool.{Bool}
use mathlib.Core.List.{List}
use Prim.Native.Nat.{ℕ, ◌-◌, ◌/◌}
use lib.ListN.{length}
use Rattle.algebra.specs.Lists.{some}
use Rattle.gate.specs.Gate.{Gate, gate_size, gates_from}
use Rattle.pauli_words.specs.Words.{operation_of}
use Rattle.pauli_judge.specs.Footprint.{writes}
use Rattle.pauli_judge.proofs.footprint.is_written.Given as goal

abbrev pub had : List ℕ → ℕ → ℕ → Bool
had ws bit i = some (λ (g : Gate). writes (operation_of g) bit) (gates_from ws i (length ws / gate_size - i))

abbrev pub invariant-loop-i : goal.invariant-loop-i
invariant-loop-i l = had l.words l.bit 0 ≡ had l.words l.bit l.i
