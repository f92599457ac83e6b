-- The nodes decide, or the operations by the mask forms that the nodes left.
use mathlib.Core.Path.{refl, ap, ◌∙◌}
use mathlib.Core.Bool.{Bool}
use mathlib.Core.List.{List}
use Prim.Native.Nat.{ℕ}
use native.Mathlib.Omega.{arith}
use lib.ListN.{take}
use Rattle.std.proofs.lemmas.Result.{err_from_is_err_and}
use Rattle.verdict.specs.Questions.{Question, first_no}
use Rattle.verdict.proofs.Questions.{refused, passed}
use Rattle.gate.specs.Gate.{gates_of}
use Rattle.pauli_nodes.specs.Nodes.{Reference}
use Rattle.pauli_words.specs.Words.{nodes_of}
use Rattle.pauli_words.specs.Questions.{axis_fits, nodes_questions, operations_questions}
use Rattle.pauli_words.specs.Inner.Masks.{mask_fits}
use Rattle.pauli_judge.proofs.Axes.{fits-same}
use Rattle.pauli_judge.proofs.questions.judge_lists.Goals as goal

-- the questions of the nodes, and of the operations
abbrev of_nodes : ℕ → List ℕ → List Question
of_nodes n ns = nodes_questions n 0 (gates_of ns)

abbrev of_operations : ℕ → ℕ → List ℕ → List ℕ → List Question
of_operations n m ns os = operations_questions (axis_fits n (nodes_of ns)) m 0 0 (gates_of os)

pub returns-in_err-judge_nodes-clause-value : goal.returns-in_err-judge_nodes-clause-value
returns-in_err-judge_nodes-clause-value c =
    let a = c.args.program in
    let p = err_from_is_err_and c.from_residual.result c.from_residual.ensures.1 in
    rw (p.1, p.2) (refused tt tt (of_nodes a.qubits a.nodes.now) (of_operations a.qubits a.bits a.nodes.now a.operations.now) c.in_err-judge_nodes.ensures.value)

pub returns-clause-value : goal.returns-clause-value
returns-clause-value c =
    let a = c.args.program in
    let yes = c.in_ok-judge_nodes.ensures in
    let ms = c.judge_nodes.new.masks in
    c.judge_operations.ensures
    ∙ ap (λ (fits : Reference → Bool). first_no (operations_questions fits a.bits 0 0 (gates_of a.operations.now)))
    (ap (λ (k : ℕ). mask_fits (take k ms)) c.node_count.ensures ∙ fits-same a.qubits c.requires.0 a.nodes.now ms yes.value refl (omega arith) (yes.gate_size_after refl))
    ∙ passed tt tt (of_nodes a.qubits a.nodes.now) (of_operations a.qubits a.bits a.nodes.now a.operations.now) yes.value

pub returns-clause-forms : goal.returns-clause-forms
returns-clause-forms c = λ h. c.in_ok-judge_nodes.ensures.gate_size_after refl
