-- What circuit_unitary knows of a circuit that it accepts.
use Rattle.std.specs.Prelude.{◌≡◌, true, ◌&&◌, List, ℕ, ◌^◌, ◌≤◌, eqb}
use Rattle.algebra.specs.Lists.{every, total}
use Rattle.gate.specs.Gate.{Gate, splits, weight, max_weight}
use Rattle.gate.specs.Inner.Entries.{valid}
use Rattle.circuit.specs.Sizes.{unitary_result, unitary_work}

-- n qubits, the gates gs, and the lengths of the buffers
pub record Accepted (n : ℕ) (gs : List Gate) (result work : ℕ) : Type 0 where
  pub few : n ≤ 5
  pub unitary : every (λ (g : Gate). valid n 0 g && eqb (splits g) 0) gs ≡ true
  pub light : total weight gs ≤ max_weight
  pub result_room : unitary_result (2 ^ n) ≤ result
  pub work_room : unitary_work (2 ^ n) ≤ work
