-- `pauli_verdict` meets its contract: the call below was given the limits that the six words are.
use mathlib.Core.Path.{◌≡◌, ap, ◌∙◌}
use Rattle.circuit.specs.declared.limits.Limits.{Limits}
use Rattle.verdict.specs.Verdict.{verdict_number, verdict_index}
use Rattle.pauli_judge.specs.Questions.{pauli_verdict}
use Rattle.c_circuits.specs.Circuits.{limits_of}
use Rattle.c_circuits.proofs.programs.pauli_verdict.Goals as goal

-- the verdict at the limits of the contract
told : (c : goal.After-report) → c.judge_pauli-answer.result ≡ pauli_verdict c.args.qubits c.args.bits c.args.store.now (limits_of c.args.limits.now) c.args.nodes.now c.args.operations.now c.args.result_words c.args.work_words
told c =
    let a = c.args in
    c.judge_pauli-answer.ensures ∙ ap (λ (l : Limits). pauli_verdict a.qubits a.bits a.store.now l a.nodes.now a.operations.now a.result_words a.work_words) c.read_limits-l.ensures

pub returns-clause-value : goal.returns-clause-value
returns-clause-value c = c.report.ensures.value ∙ ap verdict_number (told c)

pub returns-clause-index_after : goal.returns-clause-index_after
returns-clause-index_after c = c.report.ensures.index_after ∙ ap verdict_index (told c)
