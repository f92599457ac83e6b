-- The limits and their ceilings.
use Rattle.std.specs.Prelude.{Bool, ◌&&◌, leb}
use Rattle.circuit.specs.declared.limits.Limits.{Limits}

-- the ceilings, which are the defaults
abbrev pub ceilings : Limits
ceilings = record {
  max_qubits = 5;
  max_matrix_cells = 262144;
  max_multiply_terms = 10000000;
  max_operations = 1024;
  max_branches = 64;
  max_classical_bits = 64;
}

-- the four limits that circuit_unitary reads are at or below their ceilings
abbrev pub matrix_ceilings : Limits → Bool
matrix_ceilings l =
    leb l.max_qubits ceilings.max_qubits && (leb l.max_matrix_cells ceilings.max_matrix_cells
    && (leb l.max_multiply_terms ceilings.max_multiply_terms && leb l.max_operations ceilings.max_operations))

-- the limits on branches and on classical bits are at or below their ceilings
abbrev pub branch_ceilings : Limits → Bool
branch_ceilings l = leb l.max_branches ceilings.max_branches && leb l.max_classical_bits ceilings.max_classical_bits
