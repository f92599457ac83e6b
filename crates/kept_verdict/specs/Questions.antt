-- The questions of circuit_channel, answered from the counts of a kept circuit; and its gates copied out.
use Rattle.std.specs.Prelude.{cond, ◌&&◌, List, [], ◌∷◌, map, ℕ, ◌*◌, leb, length, take, drop, ℤ, nat_abs, is_ok}
use Rattle.std.proofs.lemmas.List.Edits.{sets}
use Rattle.store.specs.Store.{max_word}
use Rattle.verdict.specs.Questions.{Verdict}
use Rattle.verdict.specs.declared.Refusal.TheVariants.{OverLimit, ShortBuffer, BadCounts}
use Rattle.verdict.specs.Questions.{Question, question, first_no}
use Rattle.gate.specs.Gate.{gate_size}
use Rattle.circuit.specs.declared.limits.Limits.{Limits}
use Rattle.circuit.specs.declared.footprint.Footprint.{Footprint}
use Rattle.circuit.specs.Questions.{limits_question, number_questions}
use Rattle.kept_circuit.specs.Kept.{weight_place, splits_place, written_place, head_size, count_at, qubits_of, bits_of, gates_of, all_up_to, sound}

-- what the counts say that the gates ask for
abbrev pub kept_footprint : List ℤ → Footprint
kept_footprint l = record { gates = gates_of l; splits = count_at l splits_place; written = count_at l written_place; weight = count_at l weight_place }

-- 25, then questions 1, 3 and 7 to 10; the gates were asked 4 to 6 as they came, and no length can be wrong (2)
abbrev pub kept_questions : List ℤ → List ℕ → Limits → ℕ → ℕ → List Question
kept_questions l σ lim result work =
    question 25 (sound l) BadCounts
    ∷ limits_question lim
    ∷ question 3 (leb (gates_of l) lim.max_operations) OverLimit
    ∷ number_questions (kept_footprint l) (qubits_of l) (bits_of l) σ lim result work

abbrev pub kept_verdict : List ℤ → List ℕ → Limits → ℕ → ℕ → Verdict
kept_verdict l σ lim result work = first_no (kept_questions l σ lim result work)

-- ---- the gates, five words each, as circuit_channel takes them
abbrev pub copy_size : List ℤ → ℕ
copy_size l = gates_of l * gate_size

unfoldable pub copied : List ℤ → List ℕ
copied l = map nat_abs (take (copy_size l) (drop head_size l))

-- 25, also of a word that is none of a gate; then the room
abbrev pub copy_verdict : List ℤ → List ℕ → Verdict
copy_verdict l out = first_no (question 25 (sound l && all_up_to l head_size (copy_size l) max_word) BadCounts ∷ question 10 (leb (copy_size l) (length out)) ShortBuffer ∷ [])

abbrev pub copied_to : List ℤ → List ℕ → List ℕ
copied_to l out = cond (is_ok (copy_verdict l out)) (sets out 0 (copied l)) out
