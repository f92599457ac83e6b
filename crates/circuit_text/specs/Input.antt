-- The input of the program: n, the bit count, the store (one number a bit), the gate count, then five words a gate.
use Rattle.std.specs.Prelude.{Bool, cond, ◌&&◌, List, map, ℕ, ◌+◌, ◌*◌, eqb, leb, length, get_or, take, drop, Option, Some, None}
use Rattle.algebra.specs.Lists.{every, all_below}
use Rattle.circuit_text.specs.declared.input.Circuit.{Circuit}
use Rattle.gate.specs.Gate.{gate_size}
use Rattle.text.specs.Decimal.{value, is_number}
use Rattle.circuit_text.specs.Text.{max_bytes, body, pieces}

abbrev pub max_bits : ℕ
max_bits = 64

abbrev pub max_gates : ℕ
max_gates = 64

-- how many numbers an input of m bits and g gates has
abbrev pub number_count : ℕ → ℕ → ℕ
number_count m g = 3 + m + gate_size * g

abbrev pub max_byte : ℕ
max_byte = 255

abbrev pub bits_in : List ℕ → ℕ
bits_in ns = get_or ns 1 0

abbrev pub gates_in : List ℕ → ℕ
gates_in ns = get_or ns (2 + bits_in ns) 0

abbrev pub store_in : List ℕ → List ℕ
store_in ns = take (bits_in ns) (drop 2 ns)

-- the words of the gates
abbrev pub words_in : List ℕ → List ℕ
words_in ns = drop (3 + bits_in ns) ns

abbrev pub circuit_in : List ℕ → Circuit
circuit_in ns = record { qubits = get_or ns 0 0; bits = bits_in ns; gates = gates_in ns }

-- m numbers from the third on are bytes
abbrev pub bytes : List ℕ → ℕ → Bool
bytes ns m = all_below m (λ (i : ℕ). leb (get_or ns (2 + i) 0) max_byte)

unfoldable pub is_input : List ℕ → Bool
is_input ns = (leb (bits_in ns) max_bits && leb (gates_in ns) max_gates) && (eqb (length ns) (number_count (bits_in ns) (gates_in ns)) && bytes ns (bits_in ns))

-- ---- of a text
abbrev pub numbers_of : List ℕ → List ℕ
numbers_of t = map value (pieces (body t))

unfoldable pub is_input_text : List ℕ → Bool
is_input_text t = (leb (length t) max_bytes && every is_number (pieces (body t))) && is_input (numbers_of t)

abbrev pub input_of : List ℕ → Option Circuit
input_of t = cond (is_input_text t) (Some (circuit_in (numbers_of t))) None
