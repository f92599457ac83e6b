-- `run_side` meets its contract.
use mathlib.Core.Path.{sym, ◌∙◌}
use borrow.Author.Rules.{rules}
use Rattle.qasm.specs.Reading.{read_of}
use Rattle.text_sides.proofs.Taken.{taken, words_are, run, Handed, reads, unread}
use Rattle.text_sides.proofs.run_side.Goals as goal

pub returns-in_err-reading : goal.returns-in_err-reading
returns-in_err-reading c =
    let a = c.args in
    let h : Handed c.read_qasm.result c.map_err.result = search rules in
    let q = unread a.store.now a.limits a.gates.now a.res.now a.work.now (read_of a.text.now) c.read_qasm.ensures.reply h c.in_err-reading.was c.from_residual.ensures.1 in
    record { side = q.side; words = search rules; gates = search rules; res = q.res; work = q.work }

pub returns-in-Ok : goal.returns-in-Ok
returns-in-Ok c =
    let a = c.args in
    let h : Handed c.read_qasm.result c.map_err.result = search rules in
    let k = taken a.gates.now _ (read_of a.text.now) (sym (reads _ h c.in_ok-reading.was) ∙ c.read_qasm.ensures.reply) in
    let e = c.in-Ok.ensures in
    let q = run a.store.now a.limits a.res.now a.work.now k (words_are k c.read_qasm.ensures.gates) e.value e.res_after e.work_after in
    record { side = q.side; words = search rules; gates = search rules; res = q.res; work = q.work }

pub returns-in-Err : goal.returns-in-Err
returns-in-Err c =
    let a = c.args in
    let h : Handed c.read_qasm.result c.map_err.result = search rules in
    let k = taken a.gates.now _ (read_of a.text.now) (sym (reads _ h c.in_ok-reading.was) ∙ c.read_qasm.ensures.reply) in
    let e = c.in-Err.ensures in
    let q = run a.store.now a.limits a.res.now a.work.now k (words_are k c.read_qasm.ensures.gates) e.value e.res_after e.work_after in
    record { side = q.side; words = search rules; gates = search rules; res = q.res; work = q.work }
