-- `listings::listed` meets its contract.
use Rattle.std.proofs.Common.{◌∙◌}
use Rattle.text.specs.Page.{page, write}
use Rattle.listing.specs.Answer.{answer_of}
use Rattle.replay.specs.Record.{begun}
use Rattle.replay_cases.specs.Circuits.{with_said}
use Rattle.replay_cases.proofs.listings.listed.Goals as goal

pub returns : goal.returns
returns c =
    let s = c.args in
    let t = s.text.now in
    let line = c.read_line-line.ensures in
    let answer = c.list-count.ensures.answer ∙ (λ i. write (page s.out.now 0) (answer_of (line.bytes i) s.res.now s.work.now)) in
    c.said.ensures ∙ (λ i. with_said t (begun (line.next i)) (answer i))
