-- The formulas of a Pauli program: cells and terms that it takes, and words that its work buffer needs; the result's are a circuit's.
-- N nodes, b branches, v stores, d rows, p operations with the output frame's.
use Rattle.std.specs.Prelude.{ℕ, ◌+◌, ◌*◌, ◌^◌}
use Rattle.cells.specs.Cells.{cell_size}

abbrev pub program_cells : ℕ → ℕ → ℕ → ℕ → ℕ
program_cells N b v d = v * d ^ 4 + (3 * b + N + 8) * d ^ 2

abbrev pub program_terms : ℕ → ℕ → ℕ → ℕ → ℕ
program_terms N p b d = (2 * p * b + N) * d ^ 3 + b * d ^ 4

abbrev pub program_work : ℕ → ℕ → ℕ → ℕ
program_work N b d = (2 * b + N + 2) * (cell_size * d ^ 2 + 3)
