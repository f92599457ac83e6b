-- A circuit kept in words with its counts: the layout, the words of a gate list, and what is read back.
use Rattle.std.specs.Prelude.{Bool, cond, ◌&&◌, List, [], ◌∷◌, ◌++◌, ℕ, zero, suc, ◌+◌, ◌-◌, ◌*◌, ◌/◌, min, leb, length, replicate, ℤ, pos, nat_abs}
use Rattle.algebra.specs.Lists.{all_below, total, marks, concat_map}
use Rattle.algebra.specs.Words.{up_to}
use Rattle.channel.specs.Layout.{word}
use Rattle.gate.specs.Gate.{Gate, gate, gate_size, weight, splits}
use Rattle.circuit.specs.Limits.{ceilings}
use Rattle.circuit.specs.Footprint.{writes}

-- ---- the layout: the counts, then five words a gate
abbrev pub qubits_place : ℕ
qubits_place = 0

abbrev pub bits_place : ℕ
bits_place = 1

abbrev pub gates_place : ℕ
gates_place = 2

abbrev pub weight_place : ℕ
weight_place = 3

-- measures and resets
abbrev pub splits_place : ℕ
splits_place = 4

-- bits measured into
abbrev pub written_place : ℕ
written_place = 5

-- of bit 0; those of the other bits follow
abbrev pub measures_place : ℕ
measures_place = 6

abbrev pub max_qubits : ℕ
max_qubits = ceilings.max_qubits

abbrev pub max_bits : ℕ
max_bits = ceilings.max_classical_bits

abbrev pub max_gates : ℕ
max_gates = ceilings.max_operations

-- the words of the counts
abbrev pub head_size : ℕ
head_size = measures_place + max_bits

-- where gate i stands
abbrev pub gate_place : ℕ → ℕ
gate_place i = head_size + i * gate_size

-- ---- the words of a gate list
abbrev pub gate_words : Gate → List ℤ
gate_words g = pos g.kind ∷ pos g.a ∷ pos g.b ∷ pos g.c ∷ pos g.k ∷ []

-- how many of the gates measure into bit i
abbrev pub measures : ℕ → List Gate → ℕ
measures i gs = total (λ (g : Gate). cond (writes g i) 1 0) gs

-- of bits i, i + 1, .., n of them
unfoldable pub measure_words : ℕ → ℕ → List Gate → List ℤ
measure_words zero i gs = []
measure_words (suc n) i gs = pos (measures i gs) ∷ measure_words n (suc i) gs

-- the gates, then words that are free
abbrev pub places : List Gate → ℕ → List ℤ
places gs spare = concat_map gate_words gs ++ replicate spare (pos 0)

-- n qubits, m bits, the gates gs: the counts, as counting afresh has them, and the gates' places
unfoldable pub kept_words : ℕ → ℕ → List Gate → ℕ → List ℤ
kept_words n m gs spare =
    pos n ∷ pos m ∷ pos (length gs) ∷ pos (total weight gs) ∷ pos (total splits gs) ∷ pos (marks m writes gs) ∷ (measure_words max_bits 0 gs ++ places gs spare)

-- ---- reading
-- a count
abbrev pub count_at : List ℤ → ℕ → ℕ
count_at l i = nat_abs (word l i)

abbrev pub qubits_of : List ℤ → ℕ
qubits_of l = count_at l qubits_place

abbrev pub bits_of : List ℤ → ℕ
bits_of l = count_at l bits_place

abbrev pub gates_of : List ℤ → ℕ
gates_of l = count_at l gates_place

-- the gate in the five words from `at` on
abbrev pub kept_gate : List ℤ → ℕ → Gate
kept_gate l at = gate (count_at l at) (count_at l (at + 1)) (count_at l (at + 2)) (count_at l (at + 3)) (count_at l (at + 4))

-- the most gates that so many words have places for and the limits allow
abbrev pub room : ℕ → ℕ
room size = min max_gates ((size - head_size) / gate_size)

-- n words from `at` on are numbers from 0 to top
unfoldable pub all_up_to : List ℤ → ℕ → ℕ → ℕ → Bool
all_up_to l at n top = all_below n (λ (k : ℕ). up_to top (word l (at + k)))

-- the counts may be those of a circuit: there are words for them, none is negative, and none passes its bound, which is the gate count from the weight on
unfoldable pub sound : List ℤ → Bool
sound l =
    leb head_size (length l)
    && (up_to max_qubits (word l qubits_place)
    && (up_to max_bits (word l bits_place)
    && (up_to (room (length l)) (word l gates_place) && all_up_to l weight_place (head_size - weight_place) (gates_of l))))
