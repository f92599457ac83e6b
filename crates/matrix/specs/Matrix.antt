-- Square matrices as words: d² entries row by row, five words each.
use Rattle.std.specs.Prelude.{List, ℕ, ◌+◌, ◌*◌, ℤ}
use Rattle.exact.specs.Exact.{Exact}
use Rattle.cells.specs.Cells.{cell_size, cell_at}

-- entry i, counted row by row, of the matrix that lies from `at` on
abbrev pub entry : List ℤ → ℕ → ℕ → Exact
entry l at i = cell_at l (at + i * cell_size)

-- row r, column c
abbrev pub cell : List ℤ → ℕ → ℕ → ℕ → ℕ → Exact
cell l at d r c = entry l at (r * d + c)
