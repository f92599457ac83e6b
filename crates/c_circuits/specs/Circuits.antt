-- The limits of a call as six words.
use Rattle.std.specs.Prelude.{List, ℕ, get_or}
use Rattle.circuit.specs.declared.limits.Limits.{Limits}

-- in the order of docs/FORMATS.md
abbrev pub limits_of : List ℕ → Limits
limits_of l = record {
  max_qubits = get_or l 0 0;
  max_matrix_cells = get_or l 1 0;
  max_multiply_terms = get_or l 2 0;
  max_operations = get_or l 3 0;
  max_branches = get_or l 4 0;
  max_classical_bits = get_or l 5 0;
}
