-- `plain_channel` meets its contract: behind the profile it is circuit_channel.
use Rattle.std.specs.Prelude.{is_ok}
use mathlib.Core.Path.{sym, ap, ◌∙◌}
use lib.ListN.{length}
use Rattle.verdict.proofs.Questions.{returned, refused}
use Rattle.gate.specs.Gate.{gates_of}
use Rattle.circuit.specs.Footprint.{footprint_of}
use Rattle.circuit.specs.Questions.{number_questions}
use Rattle.judge.specs.Call.{result_after, work_after}
use Rattle.judge.proofs.Running.{unchosen}
use Rattle.plain.specs.Questions.{plain_word_questions}
use Rattle.plain.proofs.Asked.{as_channel}
use Rattle.plain.proofs.Claims.{same_result, same_work}
use Rattle.plain.proofs.plain_channel.Goals as goal

pub returns-in_err-judge_profile : goal.returns-in_err-judge_profile
returns-in_err-judge_profile c =
    let a = c.args in
    let no = refused tt tt (plain_word_questions a.circuit.qubits a.circuit.bits a.limits a.circuit.gates.now)
    (number_questions (footprint_of a.circuit.bits (gates_of a.circuit.gates.now)) a.circuit.qubits a.circuit.bits a.circuit.store.now a.limits (length a.res.now) (length a.work.now)) c.in_err-judge_profile.ensures in
    record {
      value = returned _ c.from_residual.ensures.1 ∙ no;
      res_after = unchosen (result_after a.circuit.qubits a.circuit.bits a.circuit.store.now a.limits a.circuit.gates.now a.res.now a.work.now) a.res.now (ap is_ok (sym no));
      work_after = unchosen (work_after a.circuit.qubits a.circuit.bits a.circuit.store.now a.limits a.circuit.gates.now a.res.now a.work.now) a.work.now (ap is_ok (sym no));
    }

pub returns : goal.returns
returns c =
    let a = c.args in
    let same = as_channel a.circuit.qubits a.circuit.bits a.limits a.circuit.gates.now a.circuit.store.now (length a.res.now) (length a.work.now) (ap is_ok (sym c.in_ok-judge_profile.ensures)) in
    record {
      value = c.circuit_channel.ensures.value ∙ sym same;
      res_after = c.circuit_channel.ensures.res_after ∙ sym (same_result a.circuit.qubits a.circuit.bits a.circuit.store.now a.limits a.circuit.gates.now a.res.now a.work.now same);
      work_after = c.circuit_channel.ensures.work_after ∙ sym (same_work a.circuit.qubits a.circuit.bits a.circuit.store.now a.limits a.circuit.gates.now a.res.now a.work.now same);
    }
