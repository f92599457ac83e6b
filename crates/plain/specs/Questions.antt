-- The questions of plain_channel: those of circuit_channel, with 23 right after question 6 of each gate.
use Rattle.std.specs.Prelude.{List, [], ◌∷◌, ◌++◌, ℕ, suc}
use Rattle.verdict.specs.Questions.{Verdict}
use Rattle.verdict.specs.declared.Refusal.TheVariants.{NotPlainAt}
use Rattle.verdict.specs.Questions.{Question, question, first_no}
use Rattle.gate.specs.declared.judge.Asking.TheVariants.{Channel}
use Rattle.gate.specs.Gate.{Gate, gates_of}
use Rattle.gate.specs.Questions.{gate_questions}
use Rattle.circuit.specs.declared.limits.Limits.{Limits}
use Rattle.circuit.specs.Footprint.{footprint_of}
use Rattle.circuit.specs.Questions.{length_questions, number_questions}
use Rattle.plain.specs.Profile.{in_profile}

-- questions 4 to 6 and 23, gate by gate; the gates are numbered from i on
abbrev pub profile_questions : ℕ → ℕ → ℕ → List Gate → List Question
profile_questions n m i [] = []
profile_questions n m i (g ∷ gs) = gate_questions (Channel m) n i g ++ (question 23 (in_profile g) (NotPlainAt i) ∷ profile_questions n m (suc i) gs)

-- of the words: n qubits, m classical bits, the limits l, the gates' words ws
abbrev pub plain_word_questions : ℕ → ℕ → Limits → List ℕ → List Question
plain_word_questions n m l ws = length_questions l ws ++ profile_questions n m 0 (gates_of ws)

-- with the initial store σ and the lengths of the buffers
module _ (n m : ℕ) (σ : List ℕ) (l : Limits) (ws : List ℕ) (result work : ℕ) where
  abbrev pub plain_questions : List Question
  plain_questions = plain_word_questions n m l ws ++ number_questions (footprint_of m (gates_of ws)) n m σ l result work

  abbrev pub plain_verdict : Verdict
  plain_verdict = first_no plain_questions
