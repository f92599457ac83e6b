-- An accepted circuit is run; a refusal touches nothing.
use Rattle.std.specs.Prelude.{is_ok}
use mathlib.Core.Path.{sym, ap, ◌∙◌}
use Rattle.algebra.specs.Lists.{total}
use Rattle.verdict.proofs.Questions.{returned, refused_alike, handed, handed_value}
use Rattle.gate.specs.Gate.{gates_of, splits}
use Rattle.judge.specs.Call.{asked}
use Rattle.judge.proofs.Running.{result_accepted, work_accepted, result_refused, work_refused}
use Rattle.judge.proofs.call.circuit_channel.Goals as goal

pub returns-in_err-split_count : goal.returns-in_err-split_count
returns-in_err-split_count c =
    let a = c.args in
    let no = refused_alike (total splits (gates_of a.circuit.gates.now)) tt (asked a.circuit.qubits a.circuit.bits a.circuit.store.now a.limits a.circuit.gates.now a.res.now a.work.now) c.in_err-split_count.ensures in
    record {
      value = returned _ c.from_residual.ensures.1 ∙ no;
      res_after = result_refused a.circuit.qubits a.circuit.bits a.circuit.store.now a.limits a.circuit.gates.now a.res.now a.work.now (ap is_ok (sym no));
      work_after = work_refused a.circuit.qubits a.circuit.bits a.circuit.store.now a.limits a.circuit.gates.now a.res.now a.work.now (ap is_ok (sym no));
    }

pub run_and_deliver-requires : goal.run_and_deliver-requires
run_and_deliver-requires c =
    let a = c.args in
    let qs = asked a.circuit.qubits a.circuit.bits a.circuit.store.now a.limits a.circuit.gates.now a.res.now a.work.now in
    let counted = handed_value (total splits (gates_of a.circuit.gates.now)) qs c.in_ok-split_count.ensures in
    let yes = handed (total splits (gates_of a.circuit.gates.now)) tt qs c.in_ok-split_count.ensures in
    (counted, record { limits = a.limits; yes = ap is_ok (sym yes) })

pub returns : goal.returns
returns c =
    let a = c.args in
    let yes = handed (total splits (gates_of a.circuit.gates.now)) tt (asked a.circuit.qubits a.circuit.bits a.circuit.store.now a.limits a.circuit.gates.now a.res.now a.work.now) c.in_ok-split_count.ensures in
    record {
      value = yes;
      res_after = result_accepted a.circuit.qubits a.circuit.bits a.circuit.store.now a.limits a.circuit.gates.now a.res.now a.work.now (ap is_ok (sym yes)) c.run_and_deliver.ensures.res_after;
      work_after = work_accepted a.circuit.qubits a.circuit.bits a.circuit.store.now a.limits a.circuit.gates.now a.res.now a.work.now (ap is_ok (sym yes)) c.run_and_deliver.ensures.work_after;
    }
