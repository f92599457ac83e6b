-- `list_circuit` meets its contract.
use borrow.Author.Rules.{rules}
use Rattle.std.specs.Prelude.{is_ok}
use mathlib.Core.Path.{◌≡◌, sym, ap, ◌∙◌, subst}
use mathlib.Core.Bool.{true}
use mathlib.Core.List.{List}
use lib.IntN.{ℤ}
use Rattle.circuit.specs.declared.limits.Limits.{Limits}
use Rattle.channel.specs.WellFormed.{well_formed}
use Rattle.judge.specs.Call.{result_after, work_after}
use Rattle.demands.proofs.Demands.{demand2}
use Rattle.text.specs.Page.{page, write}
use Rattle.text.proofs.Put.{lent}
use Rattle.listing.specs.Listing.{refusal_line}
use Rattle.listing.proofs.Answers.{lines_is}
use Rattle.listing.proofs.list_circuit.Goals as goal

-- an accepted call leaves a channel
pub put_channel-requires : goal.put_channel-requires
put_channel-requires c =
    let a = c.args in
    subst (λ (q : List ℤ). well_formed q ≡ true) (sym c.circuit_channel.ensures.res_after)
    (demand2 a.circuit.qubits a.circuit.bits a.circuit.store.now c.defaults.result a.circuit.gates.now a.res.now a.work.now (ap is_ok (sym c.in-Ok.ensures.value))).formed

pub returns-in-Ok : goal.returns-in-Ok
returns-in-Ok c =
    let a = c.args in
    let k = a.circuit in
    let d = c.defaults.ensures in
    let e = c.in-Ok.ensures in
    let same = c.put_channel.ensures.same ∙ c.new-w.ensures.same in
    record {
      lines = lent c.new-w.ensures.room c.new-w.ensures.at c.put_channel.ensures (search rules)
          ∙ ap (write (page a.out.now 0)) (lines_is k.qubits k.bits k.store.now k.gates.now a.res.now a.work.now d e.value e.res_after);
      res = e.res_after ∙ ap (λ (l : Limits). result_after k.qubits k.bits k.store.now l k.gates.now a.res.now a.work.now) d;
      work = e.work_after ∙ ap (λ (l : Limits). work_after k.qubits k.bits k.store.now l k.gates.now a.res.now a.work.now) d;
    }

pub returns-in-Err : goal.returns-in-Err
returns-in-Err c =
    let a = c.args in
    let k = a.circuit in
    let d = c.defaults.ensures in
    let e = c.in-Err.ensures in
    record {
      lines = c.write_refusal.ensures ∙ ap (write (page a.out.now 0)) ((λ i. refusal_line (c.number.ensures i) (c.index.ensures i))
          ∙ lines_is k.qubits k.bits k.store.now k.gates.now a.res.now a.work.now d e.value e.res_after);
      res = e.res_after ∙ ap (λ (l : Limits). result_after k.qubits k.bits k.store.now l k.gates.now a.res.now a.work.now) d;
      work = e.work_after ∙ ap (λ (l : Limits). work_after k.qubits k.bits k.store.now l k.gates.now a.res.now a.work.now) d;
    }
