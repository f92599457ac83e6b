-- The verdict of `judge_runnable`.
use Rattle.std.proofs.lemmas.Result.{err_from_is_err_and}
use Rattle.verdict.proofs.Questions.{refused_alike, handed}
use Rattle.pauli_words.specs.Words.{operations_of}
use Rattle.pauli_judge.specs.Footprint.{program_footprint}
use Rattle.pauli_judge.specs.Questions.{pauli_questions}
use Rattle.pauli_judge.proofs.questions.judge_pauli.Goals as goal

pub returns-in_err-judge_runnable : goal.returns-in_err-judge_runnable
returns-in_err-judge_runnable c =
    let a = c.args.program in
    let p = err_from_is_err_and c.from_residual.result c.from_residual.ensures.1 in
    rw (p.1, p.2)
    (refused_alike (program_footprint a.qubits a.bits (operations_of a.operations.now)) tt (pauli_questions a.qubits a.bits a.store.now c.args.l a.nodes.now a.operations.now c.args.res c.args.work) c.in_err-judge_runnable.ensures.value)

pub returns : goal.returns
returns c =
    let a = c.args.program in
    handed (program_footprint a.qubits a.bits (operations_of a.operations.now)) tt (pauli_questions a.qubits a.bits a.store.now c.args.l a.nodes.now a.operations.now c.args.res c.args.work) c.in_ok-judge_runnable.ensures.value
