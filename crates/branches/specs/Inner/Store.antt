-- Stores in two words: bits 0 to 31, then bits 32 to 63; and one bit written.
use Rattle.std.specs.Prelude.{cond, List, [], ◌∷◌, ℕ, ◌+◌, ◌*◌, ◌-◌, ◌/◌, ◌%◌, ◌^◌, eqb, ltb, get_or, take, drop, ℤ, pos, nat_abs}
use Rattle.algebra.specs.Words.{from_bits}
use Rattle.store.specs.Store.{word_bits}
use Rattle.gate.specs.Gate.{Gate, measure}
use Rattle.kraus.specs.Branch.{Store}

abbrev pub store_words : Store → List ℤ
store_words σ = pos (from_bits (take word_bits σ)) ∷ pos (from_bits (drop word_bits σ)) ∷ []

-- the number x with bit k made v
abbrev pub with_bit : ℕ → ℕ → ℕ → ℕ
with_bit x k v = x - x / 2 ^ k % 2 * 2 ^ k + v * 2 ^ k

-- the word of the bits from `first` on, with bit `bit` made v where it is one of its own
abbrev pub outcome_word : ℕ → ℕ → ℕ → ℤ → ℤ
outcome_word first bit v w = cond (ltb bit first) w (cond (ltb (word_bits - 1) (bit - first)) w (pos (with_bit (nat_abs w) (bit - first) v)))

-- a store's two words, with bit `bit` made v
abbrev pub outcome_pair : ℕ → ℕ → ℤ → ℤ → List ℤ
outcome_pair bit v low high = outcome_word 0 bit v low ∷ outcome_word word_bits bit v high ∷ []

abbrev pub outcome_words : List ℤ → ℕ → ℕ → ℕ → List ℤ
outcome_words l at bit v = outcome_pair bit v (get_or l at (pos 0)) (get_or l (at + 1) (pos 0))

-- a bit that no store has
abbrev pub no_bit : ℕ
no_bit = 2 * word_bits

-- the classical bit that a gate writes
abbrev pub outcome_bit : Gate → ℕ
outcome_bit g = cond (eqb g.kind measure) g.b no_bit
