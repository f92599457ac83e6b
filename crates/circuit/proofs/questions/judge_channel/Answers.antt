-- The verdict of the inner judge.
use mathlib.Core.Path.{◌∙◌}
use Rattle.algebra.specs.Lists.{total}
use Rattle.verdict.proofs.Questions.{returned, refused_alike, handed}
use Rattle.gate.specs.Gate.{gates_of, splits}
use Rattle.circuit.specs.Questions.{channel_questions}
use Rattle.circuit.proofs.questions.judge_channel.Goals as goal

pub returns-in_err-judge_circuit : goal.returns-in_err-judge_circuit
returns-in_err-judge_circuit c =
    let a = c.args in
    returned _ c.from_residual.ensures.1 ∙ refused_alike (total splits (gates_of a.circuit.gates.now)) tt (channel_questions a.circuit.qubits a.circuit.bits a.circuit.store.now a.l a.circuit.gates.now a.res a.work) c.in_err-judge_circuit.ensures

pub returns : goal.returns
returns c =
    let a = c.args in
    handed (total splits (gates_of a.circuit.gates.now)) tt (channel_questions a.circuit.qubits a.circuit.bits a.circuit.store.now a.l a.circuit.gates.now a.res a.work) c.in_ok-judge_circuit.ensures
