-- A circuit of the text.
use Rattle.std.specs.Prelude.{cond, List, [], ℕ, eqb}
use Rattle.circuit.specs.declared.limits.Limits.{Limits}
use Rattle.circuit.specs.Limits.{ceilings}
use Rattle.replay.specs.Numerals.{word_at, word_no, low_byte, low_word}
use Rattle.replay.specs.Words.{Filled, filled, numbers_at}
use Rattle.replay_cases.specs.declared.reading.Bounds.{Bounds}
use Rattle.replay_cases.specs.declared.reading.CircuitRead.{CircuitRead}
use Rattle.replay_cases.specs.declared.kinds.CircuitCall.{CircuitCall}
use Rattle.replay_cases.specs.declared.kinds.CircuitCall.TheVariants.{Unitary, Layered, Plain, Channel}

-- 0 for the defaults, or 1 and all six limits
abbrev pub defaults_at : List ℕ → ℕ → Bounds
defaults_at t at = record { limits = ceilings; next = (word_at t at).next }

abbrev pub limits_at : List ℕ → ℕ → Bounds
limits_at t at = record {
  limits = record {
    max_qubits = (word_no t at 1).size;
    max_matrix_cells = (word_no t at 2).size;
    max_multiply_terms = (word_no t at 3).size;
    max_operations = (word_no t at 4).size;
    max_branches = (word_no t at 5).size;
    max_classical_bits = (word_no t at 6).size;
  };
  next = (word_no t at 6).next;
}

abbrev pub bounds_at : List ℕ → ℕ → Bounds
bounds_at t at = cond (eqb (word_at t at).size 0) (defaults_at t at) (limits_at t at)

-- a circuit, and where the next number begins
pub record Given : Type 0 where
  pub limits : Limits
  pub n : ℕ
  pub bits : ℕ
  pub store : List ℕ
  pub gates : List ℕ
  pub next : ℕ

abbrev pub circuit_of : CircuitRead → Given
circuit_of c = record { limits = c.limits; n = c.circuit.qubits; bits = c.circuit.bits; store = c.circuit.store.now; gates = c.circuit.gates.now; next = c.next }

-- limits, n, bits, the bytes of the store and the words of the gates, of which so many are kept as there is room for
abbrev pub circuit_at : List ℕ → ℕ → ℕ → ℕ → Given
circuit_at t at bytes words =
    let bounds = bounds_at t at in
    let store = numbers_at low_byte t (word_no t bounds.next 1).next bytes in
    let gates = numbers_at low_word t store.next words in
    record {
      limits = bounds.limits;
      n = low_word (word_no t bounds.next 0).size;
      bits = low_word (word_no t bounds.next 1).size;
      store = store.words;
      gates = gates.words;
      next = gates.next;
    }

-- the ends of a circuit's layers, if it has some
abbrev pub ends_at : CircuitCall → List ℕ → ℕ → ℕ → Filled ℕ
ends_at Layered t at room = numbers_at low_word t at room
ends_at Unitary t at room = filled [] at
ends_at Plain t at room = filled [] at
ends_at Channel t at room = filled [] at

-- a circuit with the room that the cases lend
abbrev pub given : List ℕ → ℕ → Given
given t at = circuit_at t at 65 5200
