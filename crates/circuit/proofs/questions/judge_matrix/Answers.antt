-- The gates decide, then the last two questions.
use mathlib.Core.Path.{refl, ◌∙◌}
use borrow.Author.Tests.{le-leb, lt-leb}
use Rattle.verdict.proofs.Questions.{returned, refused, passed}
use Rattle.gate.specs.declared.judge.Asking.TheVariants.{Unitary}
use Rattle.gate.specs.Gate.{gates_of}
use Rattle.circuit.specs.Questions.{gates_questions}
use Rattle.circuit.proofs.Numbers.{last_questions, last_answers, room-found}
use Rattle.circuit.proofs.questions.judge_matrix.Goals as goal

pub returns-in_err-judge_gates : goal.returns-in_err-judge_gates
returns-in_err-judge_gates c =
    let a = c.args in
    returned _ c.from_residual.ensures.1
    ∙ refused tt tt (gates_questions Unitary a.n 0 (gates_of a.words.now)) (last_questions a.n a.words.now a.res a.work) c.in_err-judge_gates.ensures

pub returns-then-of-gt-MAX_WEIGHT : goal.returns-then-of-gt-MAX_WEIGHT
returns-then-of-gt-MAX_WEIGHT c =
    let a = c.args in
    last_answers a.n a.words.now a.res a.work c.of.ensures (lt-leb _ _ c.if-of-gt-MAX_WEIGHT.true) refl
    ∙ passed tt tt (gates_questions Unitary a.n 0 (gates_of a.words.now)) (last_questions a.n a.words.now a.res a.work) c.in_ok-judge_gates.ensures

pub returns-then-not-has_unitary_room : goal.returns-then-not-has_unitary_room
returns-then-not-has_unitary_room c =
    let a = c.args in
    last_answers a.n a.words.now a.res a.work c.of.ensures (le-leb _ _ c.if-of-gt-MAX_WEIGHT.false)
    (room-found a.n a.words.now a.res a.work c.requires c.has_unitary_room.ensures c.if-not-has_unitary_room.true)
    ∙ passed tt tt (gates_questions Unitary a.n 0 (gates_of a.words.now)) (last_questions a.n a.words.now a.res a.work) c.in_ok-judge_gates.ensures

pub returns : goal.returns
returns c =
    let a = c.args in
    last_answers a.n a.words.now a.res a.work c.of.ensures (le-leb _ _ c.if-of-gt-MAX_WEIGHT.false)
    (room-found a.n a.words.now a.res a.work c.requires c.has_unitary_room.ensures c.if-not-has_unitary_room.false)
    ∙ passed tt tt (gates_questions Unitary a.n 0 (gates_of a.words.now)) (last_questions a.n a.words.now a.res a.work) c.in_ok-judge_gates.ensures
