-- The invariant: the gates passed so far are accepted, so the rest decides.
use mathlib.Core.Path.{sym, ◌∙◌}
use Rattle.verdict.proofs.Questions.{returned}
use Rattle.circuit.proofs.AlongGates.{gate_decides, rest_decides}
use Rattle.circuit.proofs.gates.judge_gates.Goals as goal

pub loop-i-preserved : goal.loop-i-preserved
loop-i-preserved c =
    let a = c.args in
    c.loop-i.invariant ∙ rest_decides a.words.now a.asking a.n c.loop-i-test.true c.read_gate-g.ensures c.in_ok-judge.ensures

pub returns-in_err-judge : goal.returns-in_err-judge
returns-in_err-judge c =
    let a = c.args in
    returned _ c.from_residual.ensures.1 ∙ gate_decides a.words.now a.asking a.n c.loop-i-test.true c.read_gate-g.ensures c.in_err-judge.ensures
    ∙ sym c.loop-i.invariant
