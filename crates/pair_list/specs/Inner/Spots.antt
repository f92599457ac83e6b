-- Where a pair and its circuits lie in the words and the bytes.
use Rattle.std.specs.Prelude.{List, ℕ, ◌+◌, ◌≤◌, length}
use Rattle.circuit.specs.declared.Circuit as code
use Rattle.pair_list.specs.declared.Pair as lent
use Rattle.pair_list.specs.Pairs.{Circuit, Pair, circuit_head, pair_head, bits_at, gate_words_at, pair_words, pair_bytes}

-- all of a pair is there
pub record Framed (ws bs : List ℕ) (at from : ℕ) : Type 0 where
  pub head : at + pair_head ≤ length ws
  pub words : at + pair_words ws at ≤ length ws
  pub bytes : from + pair_bytes ws at ≤ length bs

-- all of a circuit is there
pub record Placed (ws bs : List ℕ) (at gates store : ℕ) : Type 0 where
  pub head : at + circuit_head ≤ length ws
  pub words : gates + gate_words_at ws at ≤ length ws
  pub bytes : store + bits_at ws at ≤ length bs

-- what a circuit and a pair that the list lends hold
abbrev pub circuit_in : code.Circuit → Circuit
circuit_in c = record { qubits = c.qubits; bits = c.bits; store = c.store.now; gates = c.gates.now }

abbrev pub pair_in : lent.Pair → Pair
pair_in p = record { left = circuit_in p.left; right = circuit_in p.right }
