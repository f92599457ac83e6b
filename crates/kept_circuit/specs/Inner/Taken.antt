-- A gate that may be taken out.
use Rattle.std.specs.Prelude.{◌≡◌, List, ℕ, ℤ, Ok}
use Rattle.verdict.specs.Questions.{first_no}
use Rattle.gate.specs.Gate.{Gate}
use Rattle.kept_circuit.specs.Edits.{gate_in, take_questions}

-- g is the gate at position i, and its questions are all answered by yes
pub record Taken (l : List ℤ) (i : ℕ) (g : Gate) : Type 0 where
  pub is : g ≡ gate_in l i
  pub asked : Ok tt ≡ first_no (take_questions l i)
