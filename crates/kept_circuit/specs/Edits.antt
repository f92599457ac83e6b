-- Start, append, remove last and replace: the questions of each, and the words that it leaves. A refusal leaves them as they were.
use Rattle.std.specs.Prelude.{Bool, true, false, cond, not, ◌&&◌, ◌||◌, List, [], ◌∷◌, ◌++◌, ℕ, ◌+◌, ◌-◌, eqb, leb, ltb, length, set, ℤ, pos, is_ok}
use Rattle.std.proofs.lemmas.List.Edits.{sets}
use Rattle.algebra.specs.Lists.{every}
use Rattle.store.specs.Store.{max_word}
use Rattle.verdict.specs.Questions.{Verdict}
use Rattle.verdict.specs.declared.Refusal.TheVariants.{OverLimit, ShortBuffer, NoPlace, NoGate, BadCounts}
use Rattle.verdict.specs.Questions.{Question, question, first_no}
use Rattle.gate.specs.declared.judge.Asking.TheVariants.{Channel}
use Rattle.gate.specs.Gate.{Gate, gate, gate_size, bits, weight, splits}
use Rattle.gate.specs.Questions.{gate_questions}
use Rattle.kept_circuit.specs.Kept.{gates_place, weight_place, splits_place, written_place, measures_place, gate_place}
use Rattle.kept_circuit.specs.Kept.{max_qubits, max_bits, head_size, gate_words, kept_words, count_at, qubits_of, bits_of, gates_of, kept_gate, room, all_up_to, sound}

-- ---- one gate more in the counts (true), or one less (false)
abbrev pub moved : Bool → ℕ → ℕ → ℕ
moved true x d = x + d
moved false x d = x - d

-- the count in word `at`, by d
unfoldable pub move_at : Bool → List ℤ → ℕ → ℕ → List ℤ
move_at more l at d = set l at (pos (moved more (count_at l at) d))

-- one measure into bit b: it is one of the bits measured into as long as its count is not 0
unfoldable pub mark : Bool → List ℤ → ℕ → List ℤ
mark more l b =
    let u = move_at more l (measures_place + b) 1 in
    cond (eqb (count_at l (measures_place + b)) 0 || eqb (count_at u (measures_place + b)) 0) (move_at more u written_place 1) u

abbrev pub mark_all : Bool → List ℤ → List ℕ → List ℤ
mark_all more l [] = l
mark_all more l (b ∷ bs) = mark_all more (mark more l b) bs

unfoldable pub counted : Bool → List ℤ → Gate → List ℤ
counted more l g = mark_all more (move_at more (move_at more (move_at more l gates_place 1) weight_place (weight g)) splits_place (splits g)) (bits g)

-- gate i's words
unfoldable pub put : List ℤ → ℕ → Gate → List ℤ
put l i g = sets l (gate_place i) (gate_words g)

-- ---- start: n qubits, m bits
abbrev pub start_verdict : ℕ → ℕ → List ℤ → Verdict
start_verdict n m l = first_no (question 8 (leb n max_qubits && leb m max_bits) OverLimit ∷ question 10 (leb head_size (length l)) ShortBuffer ∷ [])

abbrev pub started : ℕ → ℕ → List ℤ → List ℤ
started n m l = cond (is_ok (start_verdict n m l)) (kept_words n m [] (length l - head_size)) l

-- questions 4 to 6 of a gate at position i
abbrev pub ask_gate : List ℤ → ℕ → Gate → List Question
ask_gate l i g = gate_questions (Channel (bits_of l)) (qubits_of l) i g

-- ---- append
abbrev pub append_verdict : List ℤ → Gate → Verdict
append_verdict l g = first_no (question 25 (sound l) BadCounts ∷ question 20 (ltb (gates_of l) (room (length l))) NoPlace ∷ ask_gate l (gates_of l) g)

abbrev pub appended : List ℤ → Gate → List ℤ
appended l g = cond (is_ok (append_verdict l g)) (put (counted true l g) (gates_of l) g) l

-- ---- taking out the gate at position i
abbrev pub gate_in : List ℤ → ℕ → Gate
gate_in l i = kept_gate l (gate_place i)

-- no count falls below 0 as a measure into bit b goes
abbrev pub covers_bit : List ℤ → ℕ → Bool
covers_bit l b = ltb 0 (count_at l (measures_place + b)) && (not (eqb (count_at l (measures_place + b)) 1) || ltb 0 (count_at l written_place))

-- as the gate goes
abbrev pub covers : List ℤ → Gate → Bool
covers l g = leb (weight g) (count_at l weight_place) && (leb (splits g) (count_at l splits_place) && every (covers_bit l) (bits g))

-- its words are a gate that passes questions 4 to 6, and the counts cover it
unfoldable pub takeable : List ℤ → ℕ → Bool
takeable l i = all_up_to l (gate_place i) gate_size max_word && (is_ok (first_no (ask_gate l i (gate_in l i))) && covers l (gate_in l i))

-- 25, of the gate where there is one, then 21
abbrev pub take_questions : List ℤ → ℕ → List Question
take_questions l i = question 25 (sound l && (leb (gates_of l) i || takeable l i)) BadCounts ∷ question 21 (ltb i (gates_of l)) NoGate ∷ []

-- a place without a gate holds zeros
abbrev pub no_gate : Gate
no_gate = gate 0 0 0 0 0

-- ---- remove last
abbrev pub last_of : List ℤ → ℕ
last_of l = gates_of l - 1

abbrev pub remove_verdict : List ℤ → Verdict
remove_verdict l = first_no (take_questions l (last_of l))

abbrev pub removed : List ℤ → List ℤ
removed l = cond (is_ok (remove_verdict l)) (put (counted false l (gate_in l (last_of l))) (last_of l) no_gate) l

-- ---- replace: gate g at position i
abbrev pub replace_verdict : List ℤ → ℕ → Gate → Verdict
replace_verdict l i g = first_no (take_questions l i ++ ask_gate l i g)

abbrev pub replaced : List ℤ → ℕ → Gate → List ℤ
replaced l i g = cond (is_ok (replace_verdict l i g)) (put (counted true (counted false l (gate_in l i)) g) i g) l
