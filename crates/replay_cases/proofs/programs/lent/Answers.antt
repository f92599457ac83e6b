-- `programs::lent` meets its contract.
use Rattle.std.proofs.Common.{sym, ◌∙◌, length, length-take-le}
use Rattle.replay.proofs.Parts.{fitted_less, take-fitting}
use Rattle.replay_cases.specs.Programs.{called}
use Rattle.replay_cases.proofs.programs.lent.Goals as goal

pub returns : goal.returns
returns c =
    let s = c.args in
    let p = s.program in
    let result = take-fitting c.fitting-r.result s.after s.res.now c.fitting-r.ensures in
    let work = take-fitting c.fitting-w.result s.spent s.work.now c.fitting-w.ensures in
    c.called.ensures ∙ (λ i. called s.text.now s.at p.qubits p.bits p.store.now p.nodes.now p.operations.now (result i) (work i))

pub slice_bounds-called-end : goal.slice_bounds-called-end
slice_bounds-called-end c = fitted_less c.args.after (length c.args.res.now) c.fitting-r.ensures

pub slice_bounds-called-end-2 : goal.slice_bounds-called-end-2
slice_bounds-called-end-2 c = sym (length-take-le c.fitting-r.result c.args.res.now (fitted_less c.args.after (length c.args.res.now) c.fitting-r.ensures))

pub slice_bounds-called-end-3 : goal.slice_bounds-called-end-3
slice_bounds-called-end-3 c = fitted_less c.args.spent (length c.args.work.now) c.fitting-w.ensures

pub slice_bounds-called-end-4 : goal.slice_bounds-called-end-4
slice_bounds-called-end-4 c = sym (length-take-le c.fitting-w.result c.args.work.now (fitted_less c.args.spent (length c.args.work.now) c.fitting-w.ensures))
