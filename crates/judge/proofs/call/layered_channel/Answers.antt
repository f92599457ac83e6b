-- As `circuit_channel`: where the layered circuit is accepted, its gate list is.
use Rattle.std.specs.Prelude.{is_ok}
use mathlib.Core.Path.{sym, ap, ◌∙◌}
use lib.ListN.{length}
use Rattle.algebra.specs.Lists.{total}
use Rattle.verdict.proofs.Questions.{returned, refused_alike, handed, handed_value}
use Rattle.gate.specs.Gate.{gates_of, splits}
use Rattle.circuit.specs.Layers.{layered_questions}
use Rattle.circuit.proofs.Clashes.{layered-accepts}
use Rattle.judge.specs.Call.{result_after, work_after}
use Rattle.judge.proofs.Running.{chosen, unchosen, result_accepted, work_accepted}
use Rattle.judge.proofs.call.layered_channel.Goals as goal

pub returns-in_err-split_count : goal.returns-in_err-split_count
returns-in_err-split_count c =
    let a = c.args in
    let no = refused_alike (total splits (gates_of a.circuit.gates.now)) tt (layered_questions a.circuit.qubits a.circuit.bits a.circuit.store.now a.limits a.circuit.gates.now a.ends.now (length a.res.now) (length a.work.now))
    c.in_err-split_count.ensures in
    record {
      value = returned _ c.from_residual.ensures.1 ∙ no;
      res_after = unchosen (result_after a.circuit.qubits a.circuit.bits a.circuit.store.now a.limits a.circuit.gates.now a.res.now a.work.now) a.res.now (ap is_ok (sym no));
      work_after = unchosen (work_after a.circuit.qubits a.circuit.bits a.circuit.store.now a.limits a.circuit.gates.now a.res.now a.work.now) a.work.now (ap is_ok (sym no));
    }

pub run_and_deliver-requires : goal.run_and_deliver-requires
run_and_deliver-requires c =
    let a = c.args in
    let qs = layered_questions a.circuit.qubits a.circuit.bits a.circuit.store.now a.limits a.circuit.gates.now a.ends.now (length a.res.now) (length a.work.now) in
    let counted = handed_value (total splits (gates_of a.circuit.gates.now)) qs c.in_ok-split_count.ensures in
    let yes = handed (total splits (gates_of a.circuit.gates.now)) tt qs c.in_ok-split_count.ensures in
    (counted, record { limits = a.limits; yes = layered-accepts a.circuit.qubits a.circuit.bits a.circuit.store.now a.limits a.circuit.gates.now a.ends.now (length a.res.now) (length a.work.now) (ap is_ok (sym yes)) })

pub returns : goal.returns
returns c =
    let a = c.args in
    let yes = handed (total splits (gates_of a.circuit.gates.now)) tt (layered_questions a.circuit.qubits a.circuit.bits a.circuit.store.now a.limits a.circuit.gates.now a.ends.now (length a.res.now) (length a.work.now))
    c.in_ok-split_count.ensures in
    let sound = layered-accepts a.circuit.qubits a.circuit.bits a.circuit.store.now a.limits a.circuit.gates.now a.ends.now (length a.res.now) (length a.work.now) (ap is_ok (sym yes)) in
    record {
      value = yes;
      res_after = chosen (result_after a.circuit.qubits a.circuit.bits a.circuit.store.now a.limits a.circuit.gates.now a.res.now a.work.now) a.res.now (ap is_ok (sym yes))
          (result_accepted a.circuit.qubits a.circuit.bits a.circuit.store.now a.limits a.circuit.gates.now a.res.now a.work.now sound c.run_and_deliver.ensures.res_after);
      work_after = chosen (work_after a.circuit.qubits a.circuit.bits a.circuit.store.now a.limits a.circuit.gates.now a.res.now a.work.now) a.work.now (ap is_ok (sym yes))
          (work_accepted a.circuit.qubits a.circuit.bits a.circuit.store.now a.limits a.circuit.gates.now a.res.now a.work.now sound c.run_and_deliver.ensures.work_after);
    }
