-- `edits::lent` meets its contract.
use Rattle.std.proofs.Common.{sym, ◌∙◌, take, replicate, length-take-le}
use Rattle.replay.proofs.Reading.{following}
use Rattle.replay.proofs.Parts.{fitted_less, take-room}
use Rattle.replay_cases.specs.Edits.{called}
use Rattle.replay_cases.proofs.edits.lent.Goals as goal

pub slice_bounds-out-end : goal.slice_bounds-out-end
slice_bounds-out-end c = fitted_less c.read-copied.result.size 100 c.fitting-o.ensures

pub slice_bounds-called-end : goal.slice_bounds-called-end
slice_bounds-called-end c = sym (length-take-le c.fitting-o.result (replicate 100 7) (fitted_less c.read-copied.result.size 100 c.fitting-o.ensures))

pub returns : goal.returns
returns c =
    let s = c.args in
    let t = s.text.now in
    let w0 = c.read-result.ensures in
    let w1 = following t s.at 0 w0 c.read-work.ensures in
    let w2 = following t s.at 1 w1 c.read-copied.ensures in
    let out = take-room c.fitting-o.result c.read-copied.result.size 100 7 c.fitting-o.ensures ∙ (λ i. take (w2 i).size (replicate 100 7)) in
    c.called.ensures ∙ (λ i. called t (w2 i).next s.e s.words.now s.store.now (w0 i).size (w1 i).size (out i))
