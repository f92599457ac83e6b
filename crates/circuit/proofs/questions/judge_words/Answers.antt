-- The limits and the length decide, then the gates.
use mathlib.Core.Path.{◌∙◌}
use Rattle.verdict.proofs.Questions.{returned, refused, passed}
use Rattle.gate.specs.declared.judge.Asking.TheVariants.{Channel}
use Rattle.gate.specs.Gate.{gates_of}
use Rattle.circuit.specs.Questions.{length_questions, gates_questions}
use Rattle.circuit.proofs.questions.judge_words.Goals as goal

pub returns-in_err-judge_length : goal.returns-in_err-judge_length
returns-in_err-judge_length c =
    let a = c.args in
    returned _ c.from_residual.ensures.1
    ∙ refused tt tt (length_questions a.l a.circuit.gates.now) (gates_questions (Channel a.circuit.bits) a.circuit.qubits 0 (gates_of a.circuit.gates.now)) c.in_err-judge_length.ensures

pub returns : goal.returns
returns c =
    let a = c.args in
    c.judge_gates.ensures
    ∙ passed tt tt (length_questions a.l a.circuit.gates.now) (gates_questions (Channel a.circuit.bits) a.circuit.qubits 0 (gates_of a.circuit.gates.now)) c.in_ok-judge_length.ensures
