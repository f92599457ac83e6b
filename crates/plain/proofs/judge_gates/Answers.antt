-- The invariant: the gates passed so far are accepted and in the profile, so the rest decides.
use mathlib.Core.Path.{sym, ◌∙◌}
use Rattle.verdict.proofs.Questions.{returned}
use Rattle.plain.proofs.Asked.{gate_decides, profile_decides, rest_decides}
use Rattle.plain.proofs.judge_gates.Goals as goal

pub returns-in_err-judge : goal.returns-in_err-judge
returns-in_err-judge c =
    let a = c.args.circuit in
    returned _ c.from_residual.ensures.1 ∙ gate_decides a.gates.now a.qubits a.bits c.loop-i-test.true c.read_gate-g.ensures c.in_err-judge.ensures
    ∙ sym c.loop-i.invariant

pub returns-then-not-is_plain : goal.returns-then-not-is_plain
returns-then-not-is_plain c =
    let a = c.args.circuit in
    profile_decides a.gates.now a.qubits a.bits c.loop-i-test.true c.read_gate-g.ensures c.in_ok-judge.ensures (sym c.is_plain.ensures ∙ c.if-not-is_plain.true)
    ∙ sym c.loop-i.invariant

pub loop-i-preserved : goal.loop-i-preserved
loop-i-preserved c =
    let a = c.args.circuit in
    c.loop-i.invariant
    ∙ rest_decides a.gates.now a.qubits a.bits c.loop-i-test.true c.read_gate-g.ensures c.in_ok-judge.ensures (sym c.is_plain.ensures ∙ c.if-not-is_plain.false)
