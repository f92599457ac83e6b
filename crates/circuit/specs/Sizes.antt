-- Document 01's formulas: cells and terms that a circuit takes, and words that its buffers need.
-- b branches, v stores, d rows, g gates.
use Rattle.std.specs.Prelude.{ℕ, ◌+◌, ◌*◌, ◌^◌}
use Rattle.cells.specs.Cells.{cell_size}

-- question 8
abbrev pub cells_needed : ℕ → ℕ → ℕ → ℕ
cells_needed b v d = v * d ^ 4 + (3 * b + 8) * d ^ 2

abbrev pub terms_needed : ℕ → ℕ → ℕ → ℕ
terms_needed g b d = 2 * g * b * d ^ 3 + b * d ^ 4

-- question 10
abbrev pub result_words : ℕ → ℕ → ℕ
result_words v d = 4 + v * (4 + 4 * d ^ 4)

abbrev pub work_words : ℕ → ℕ → ℕ
work_words b d = (2 * b + 2) * (cell_size * d ^ 2 + 2)

-- circuit_unitary
abbrev pub unitary_cells : ℕ → ℕ
unitary_cells d = 8 * d ^ 2

abbrev pub unitary_terms : ℕ → ℕ → ℕ
unitary_terms g d = d ^ 3 * g

abbrev pub unitary_result : ℕ → ℕ
unitary_result d = cell_size * d ^ 2

abbrev pub unitary_work : ℕ → ℕ
unitary_work d = 4 * (cell_size * d ^ 2 + 2)
