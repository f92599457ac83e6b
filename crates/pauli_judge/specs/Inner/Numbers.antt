-- What question 8 asks of cells and terms, of N nodes and p operations.
use Rattle.std.specs.Prelude.{Bool, ◌&&◌, ℕ, leb}
use Rattle.circuit.specs.declared.limits.Limits.{Limits}
use Rattle.circuit.specs.declared.sizes.Sizes.{Sizes}
use Rattle.pauli_judge.specs.Sizes.{program_cells, program_terms}

abbrev pub few_program_cells : ℕ → Limits → ℕ → Sizes → Bool
few_program_cells N l p s = leb (program_cells N s.branches s.stores s.rows) l.max_matrix_cells && leb (program_terms N p s.branches s.rows) l.max_multiply_terms
