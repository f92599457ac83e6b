-- Where the words pass, all is asked that circuit_channel asks.
use Rattle.std.specs.Prelude.{is_ok}
use mathlib.Core.Path.{sym, ap, ◌∙◌}
use Rattle.verdict.proofs.Questions.{returned, refused}
use Rattle.gate.specs.Gate.{gates_of}
use Rattle.circuit.specs.Footprint.{footprint_of}
use Rattle.circuit.specs.Questions.{number_questions}
use Rattle.plain.specs.Questions.{plain_word_questions}
use Rattle.plain.proofs.Asked.{as_channel}
use Rattle.plain.proofs.judge_plain_channel.Goals as goal

pub returns-in_err-judge_profile : goal.returns-in_err-judge_profile
returns-in_err-judge_profile c =
    let a = c.args in
    returned _ c.from_residual.ensures.1
    ∙ refused tt tt (plain_word_questions a.circuit.qubits a.circuit.bits a.l a.circuit.gates.now)
    (number_questions (footprint_of a.circuit.bits (gates_of a.circuit.gates.now)) a.circuit.qubits a.circuit.bits a.circuit.store.now a.l a.res a.work) c.in_err-judge_profile.ensures

pub returns : goal.returns
returns c =
    let a = c.args in
    c.judge_channel.ensures ∙ sym (as_channel a.circuit.qubits a.circuit.bits a.l a.circuit.gates.now a.circuit.store.now a.res a.work (ap is_ok (sym c.in_ok-judge_profile.ensures)))
