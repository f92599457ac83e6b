-- The questions of one gate, by the call that asks them.
use Rattle.std.specs.Prelude.{Bool, ◌&&◌, List, [], ◌∷◌, ℕ, eqb, ltb}
use Rattle.algebra.specs.Lists.{every}
use Rattle.verdict.specs.declared.Refusal.TheVariants.{UnsupportedAt, OperandAt, MalformedAt}
use Rattle.verdict.specs.Questions.{Question, question}
use Rattle.gate.specs.declared.judge.Asking.{Asking}
use Rattle.gate.specs.declared.judge.Asking.TheVariants.{Channel, Unitary, Placing}
use Rattle.gate.specs.Gate.{Gate, qubits, distinct, formed, placed, supported, splits}

-- questions 4 to 6 of gate i, by their answers
abbrev pub three_answers : ℕ → Bool → Bool → Bool → List Question
three_answers i known fits able = question 4 known (MalformedAt i) ∷ question 5 fits (OperandAt i) ∷ question 6 able (UnsupportedAt i) ∷ []

-- circuit_unitary asks no bit count, and holds measure and reset unsupported
abbrev pub on_qubits : ℕ → Gate → Bool
on_qubits n g = every (λ (q : ℕ). ltb q n) (qubits g) && distinct (qubits g)

abbrev pub gate_questions : Asking → ℕ → ℕ → Gate → List Question
gate_questions (Channel m) n i g = three_answers i (formed g) (placed n m g) (supported g)
gate_questions Unitary n i g = three_answers i (formed g) (on_qubits n g) (supported g && eqb (splits g) 0)
-- judge_schedule does not ask question 6
gate_questions (Placing m) n i g = question 4 (formed g) (MalformedAt i) ∷ question 5 (placed n m g) (OperandAt i) ∷ []
