-- The words decide, or the numbers.
use Rattle.std.specs.Prelude.{is_ok}
use mathlib.Core.Path.{◌≡◌, refl, sym, ap, ◌∙◌}
use mathlib.Core.List.{List}
use native.Mathlib.Omega.{arith}
use Prim.Native.Nat.{ℕ, ◌+◌, ◌*◌, ◌/◌}
use lib.ListN.{length, length-map}
use Rattle.std.proofs.lemmas.Result.{err_from_is_err_and}
use Rattle.verdict.specs.Questions.{Question, first_no}
use Rattle.verdict.proofs.Questions.{refused, refused_alike, passed, handed}
use Rattle.circuit.specs.declared.limits.Limits.{Limits}
use Rattle.gate.specs.Gate.{gate_size, gates_of}
use Rattle.gate.proofs.Listed.{gates-length}
use Rattle.pauli_words.specs.Words.{operation_of, operations_of}
use Rattle.pauli_judge.specs.declared.footprint.ProgramFootprint.{ProgramFootprint}
use Rattle.pauli_judge.specs.Footprint.{program_footprint}
use Rattle.pauli_judge.specs.Questions.{program_word_questions, program_number_questions}
use Rattle.pauli_judge.proofs.Accepted.{words_known}
use Rattle.pauli_judge.proofs.questions.judge_runnable.Goals as goal

-- the questions of the numbers
abbrev of_numbers : ℕ → ℕ → List ℕ → Limits → List ℕ → ℕ → ℕ → List Question
of_numbers n m σ l os res work = program_number_questions (program_footprint n m (operations_of os)) n m σ l res work

pub returns-in_err-judge_words-clause-value : goal.returns-in_err-judge_words-clause-value
returns-in_err-judge_words-clause-value c =
    let a = c.args.program in
    let p = err_from_is_err_and c.from_residual.result c.from_residual.ensures.1 in
    rw (p.1, p.2)
    (refused tt (program_footprint a.qubits a.bits (operations_of a.operations.now)) (program_word_questions a.qubits a.bits c.args.l a.nodes.now a.operations.now)
    (of_numbers a.qubits a.bits a.store.now c.args.l a.operations.now c.args.res c.args.work) c.in_err-judge_words.ensures.value)

pub judge_numbers-requires : goal.judge_numbers-requires
judge_numbers-requires c =
    let a = c.args.program in
    let k = words_known a.qubits a.bits c.args.l a.nodes.now a.operations.now (sym (ap is_ok c.in_ok-judge_words.ensures.value)) in
    let p : c.of-f.result.counts.gates ≡ length a.operations.now / gate_size + 2 * a.qubits =
    ap (λ (f : ProgramFootprint). f.counts.gates) c.of-f.ensures ∙ ap (λ (g : ℕ). g + 2 * a.qubits) (length-map (gates_of a.operations.now) operation_of ∙ gates-length a.operations.now 0 (length a.operations.now / gate_size)) in
    let N : c.of-f.result.nodes ≡ (program_footprint a.qubits a.bits (operations_of a.operations.now)).nodes = ap (λ (f : ProgramFootprint). f.nodes) c.of-f.ensures in
    (k.low, omega (arith, p, k.operations_few), omega (arith, N, k.nodes_few))

pub returns-in_err-judge_numbers-clause-value : goal.returns-in_err-judge_numbers-clause-value
returns-in_err-judge_numbers-clause-value c =
    let a = c.args.program in
    let f = program_footprint a.qubits a.bits (operations_of a.operations.now) in
    let p = err_from_is_err_and c.from_residual-in_err-judge_numbers.result c.from_residual-in_err-judge_numbers.ensures.1 in
    let h = c.in_err-judge_numbers.ensures ∙ ap (λ (f : ProgramFootprint). first_no (program_number_questions f a.qubits a.bits a.store.now c.args.l c.args.res c.args.work)) c.of-f.ensures in
    rw (p.1, p.2)
    (refused_alike tt f (of_numbers a.qubits a.bits a.store.now c.args.l a.operations.now c.args.res c.args.work) h
    ∙ passed tt f (program_word_questions a.qubits a.bits c.args.l a.nodes.now a.operations.now) (of_numbers a.qubits a.bits a.store.now c.args.l a.operations.now c.args.res c.args.work) c.in_ok-judge_words.ensures.value)

pub returns-clause-value : goal.returns-clause-value
returns-clause-value c =
    let a = c.args.program in
    let f = program_footprint a.qubits a.bits (operations_of a.operations.now) in
    let h = c.in_ok-judge_numbers.ensures ∙ ap (λ (f : ProgramFootprint). first_no (program_number_questions f a.qubits a.bits a.store.now c.args.l c.args.res c.args.work)) c.of-f.ensures in
    rw c.of-f.ensures
    (handed tt f (of_numbers a.qubits a.bits a.store.now c.args.l a.operations.now c.args.res c.args.work) h
    ∙ passed tt f (program_word_questions a.qubits a.bits c.args.l a.nodes.now a.operations.now) (of_numbers a.qubits a.bits a.store.now c.args.l a.operations.now c.args.res c.args.work) c.in_ok-judge_words.ensures.value)

pub returns-clause-forms : goal.returns-clause-forms
returns-clause-forms c = λ h. c.in_ok-judge_words.ensures.forms refl
