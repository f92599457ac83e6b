-- A text read from the left: what the numbers so far say.
use Rattle.std.specs.Prelude.{Bool, cond, ◌&&◌, ◌||◌, List, map, ℕ, ◌+◌, eqb, leb, ltb, Option, Some, None}
use Rattle.std.proofs.lemmas.List.Edits.{sets}
use Rattle.algebra.specs.Lists.{every}
use Rattle.circuit_text.specs.declared.input.Seen.{Seen}
use Rattle.circuit_text.specs.declared.input.Circuit.{Circuit}
use Rattle.text.specs.Decimal.{value, is_number}
use Rattle.circuit_text.specs.Input.{max_bits, max_gates, number_count, max_byte, store_in, circuit_in, is_input, numbers_of, is_input_text}

-- the most numbers of an input
abbrev pub max_numbers : ℕ
max_numbers = number_count max_bits max_gates

-- ---- the numbers so far
abbrev pub none_seen : Seen
none_seen = record { count = 0; qubits = 0; bits = 0; gates = 0 }

-- one number more: number 0 is n, number 1 the bit count, and the store's are followed by the gate count
abbrev pub seen_next : Seen → ℕ → Seen
seen_next s v = record {
  count = s.count + 1;
  qubits = cond (eqb s.count 0) v s.qubits;
  bits = cond (eqb s.count 1) v s.bits;
  gates = cond (eqb s.count (2 + s.bits)) v s.gates;
}

-- no number of the store, or a byte
abbrev pub fits_store : Seen → ℕ → Bool
fits_store s v = ltb s.count 2 || (leb (2 + s.bits) s.count || leb v max_byte)

abbrev pub seen_with : Seen → ℕ → Option Seen
seen_with s v = cond (fits_store s v) (Some (seen_next s v)) None

abbrev pub seen_ok : Seen → Bool
seen_ok s = (leb s.bits max_bits && leb s.gates max_gates) && eqb s.count (number_count s.bits s.gates)

abbrev pub seen_input : Seen → Option Circuit
seen_input s = cond (seen_ok s) (Some (record { qubits = s.qubits; bits = s.bits; gates = s.gates })) None

-- the circuit in the pieces of a text
abbrev pub input_in : List (List ℕ) → Option Circuit
input_in ps = cond (every is_number ps && is_input (map value ps)) (Some (circuit_in (map value ps))) None

-- the room for the numbers and for the store after reading: as it was, where the text is no input
abbrev pub filled : List ℕ → List ℕ → List ℕ
filled t l = cond (is_input_text t) (sets l 0 (numbers_of t)) l

abbrev pub stored : List ℕ → List ℕ → List ℕ
stored t l = cond (is_input_text t) (sets l 0 (store_in (numbers_of t))) l
