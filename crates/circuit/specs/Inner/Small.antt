-- The largest sizes that any limits allow.
use Rattle.std.specs.Prelude.{ℕ}

-- six splits make 64 branches
abbrev pub max_splits : ℕ
max_splits = 6

abbrev pub max_branches : ℕ
max_branches = 64

-- five qubits make 32 rows
abbrev pub max_qubits : ℕ
max_qubits = 5

abbrev pub max_gates : ℕ
max_gates = 1024
