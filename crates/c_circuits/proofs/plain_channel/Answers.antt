-- `plain_channel` meets its contract: the call below was given the limits that the six words are.
use mathlib.Core.Path.{◌≡◌, ap, ◌∙◌}
use Rattle.circuit.specs.declared.limits.Limits.{Limits}
use Rattle.verdict.specs.Verdict.{verdict_number, verdict_index}
use Rattle.plain.specs.Call.{plain_verdict_of, plain_result, plain_work}
use Rattle.c_circuits.specs.Circuits.{limits_of}
use Rattle.c_circuits.proofs.plain_channel.Goals as goal

-- the verdict at the limits of the contract
told : (c : goal.After-report) → c.plain_channel-v.result ≡ plain_verdict_of c.args.qubits c.args.bits c.args.store.now (limits_of c.args.limits.now) c.args.gates.now c.args.res.now c.args.work.now
told c =
    let a = c.args in
    c.plain_channel-v.ensures.value ∙ ap (λ (l : Limits). plain_verdict_of a.qubits a.bits a.store.now l a.gates.now a.res.now a.work.now) c.read_limits.ensures

pub returns-clause-value : goal.returns-clause-value
returns-clause-value c = c.report.ensures.value ∙ ap verdict_number (told c)

pub returns-clause-index_after : goal.returns-clause-index_after
returns-clause-index_after c = c.report.ensures.index_after ∙ ap verdict_index (told c)

pub returns-clause-res_after : goal.returns-clause-res_after
returns-clause-res_after c =
    let a = c.args in
    c.plain_channel-v.ensures.res_after ∙ ap (λ (l : Limits). plain_result a.qubits a.bits a.store.now l a.gates.now a.res.now a.work.now) c.read_limits.ensures

pub returns-clause-work_after : goal.returns-clause-work_after
returns-clause-work_after c =
    let a = c.args in
    c.plain_channel-v.ensures.work_after ∙ ap (λ (l : Limits). plain_work a.qubits a.bits a.store.now l a.gates.now a.res.now a.work.now) c.read_limits.ensures
