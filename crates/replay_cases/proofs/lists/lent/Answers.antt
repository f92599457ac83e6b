-- `lists::lent` meets its contract.
use Rattle.std.proofs.Common.{◌∙◌, take}
use Rattle.replay.proofs.Parts.{take-fitting}
use Rattle.replay.proofs.Reading.{following}
use Rattle.replay_cases.specs.Lists.{called, lent}
use Rattle.replay_cases.proofs.lists.lent.Goals as goal

pub returns : goal.returns
unfolding lent
returns c =
    let s = c.args in
    let t = s.text.now in
    let w0 = c.read-count.ensures in
    let w1 = following t s.at 0 w0 c.read-first.ensures in
    let w2 = following t s.at 1 w1 c.read-second.ensures in
    let w3 = following t s.at 2 w2 c.read-third.ensures in
    let w4 = following t s.at 3 w3 c.read-fourth.ensures in
    let w5 = following t s.at 4 w4 c.read-fifth.ensures in
    let left = take-fitting c.fitting-l.result c.read-first.result.size s.left.now c.fitting-l.ensures ∙ (λ i. take (w1 i).size s.left.now) in
    let right = take-fitting c.fitting-r.result c.read-second.result.size s.right.now c.fitting-r.ensures ∙ (λ i. take (w2 i).size s.right.now) in
    let work = take-fitting c.fitting-w.result c.read-third.result.size s.work.now c.fitting-w.ensures ∙ (λ i. take (w3 i).size s.work.now) in
    let answers = take-fitting c.fitting-a.result c.read-fourth.result.size s.answers.now c.fitting-a.ensures ∙ (λ i. take (w4 i).size s.answers.now) in
    let scalars = take-fitting c.fitting-s.result c.read-fifth.result.size s.scalars.now c.fitting-s.ensures ∙ (λ i. take (w5 i).size s.scalars.now) in
    c.called.ensures ∙ (λ i. called t (w5 i).next (w0 i).size (left i) (right i) (work i) (answers i) (scalars i))
