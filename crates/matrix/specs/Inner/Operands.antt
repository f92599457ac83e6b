-- What the rule of the global phase asks of the entries that it multiplies.
use Rattle.std.specs.Prelude.{◌≡◌, true, List, ℕ, ◌*◌, ◌<◌, ◌≤◌, length, ℤ}
use Rattle.exact.specs.Exact.{Exact, well_formed, narrow}
use Rattle.cells.specs.Cells.{cell_size, exponent_at}
use Rattle.matrix.specs.Phase.{entry_of}

pub record Operand (x : Exact) : Type 0 where
  pub form : well_formed x ≡ true
  pub small : narrow x ≡ true

-- n such entries
pub record Operands (l : List ℤ) (n : ℕ) : Type 0 where
  pub room : n * cell_size ≤ length l
  pub exponent : (i : ℕ) → i < n → exponent_at l (i * cell_size) ≡ true
  pub operand : (i : ℕ) → i < n → Operand (entry_of l i)
