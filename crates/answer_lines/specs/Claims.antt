-- Each answer fits into a room that is small.
use Rattle.std.specs.Prelude.{◌≡◌, true, List, ℕ, ◌≤◌, length}
use Rattle.scalar.specs.declared.Scalar.{Scalar}
use Rattle.gate.specs.Gate.{gate_size}
use Rattle.compare.specs.declared.Place.{Place}
use Rattle.qasm.specs.Claims.{small}
use Rattle.answer_lines.specs.declared.Fault.{Fault}
use Rattle.answer_lines.specs.declared.Which.{Which}
use Rattle.answer_lines.specs.Lines.{max_answer, same_text, dimensions_text, different_text, refused_text}

-- on up to 64 qubits and 64 bits, with the words of one gate at most
pub record Fits : Type 0 where
  pub same : length same_text ≤ max_answer
  pub dimensions : (n m n' m' : ℕ) → length (dimensions_text n m n' m') ≤ max_answer
  pub different : (n m : ℕ) (p : Place) (x y : Scalar) → n ≤ 64 → m ≤ 64 → length (different_text n m p x y) ≤ max_answer
  pub refused : (which : Which) (r : Fault) (gate : List ℕ) (room : ℕ) → length gate ≤ gate_size → small gate ≡ true → length (refused_text which r gate room) ≤ max_answer
