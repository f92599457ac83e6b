-- The zero test of a cell.
use Rattle.std.specs.Prelude.{Bool, List, ℕ, ℤ}
use Rattle.exact.specs.Exact.{is_zero}
use Rattle.cells.specs.Cells.{cell_at}

abbrev pub zero_at : List ℤ → ℕ → Bool
zero_at l at = is_zero (cell_at l at).num
