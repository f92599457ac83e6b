-- A text that is read has as many gates as were read from it.
use Rattle.std.specs.Prelude.{◌≡◌, List, ℕ, ◌*◌, length}
use Rattle.gate.specs.Gate.{gate_size}
use Rattle.qasm.specs.Reading.{circuit, read_of}
use Rattle.statements.specs.Statements.{gate_count}

abbrev pub Counted : Type 0
Counted = (t : List ℕ) (n m : ℕ) (ws : List ℕ) → read_of t ≡ circuit n m ws → gate_count t * gate_size ≡ length ws
