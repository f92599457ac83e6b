-- `listings::said` meets its contract.
use Rattle.std.proofs.Common.{◌∙◌}
use Rattle.replay.specs.Record.{with_number, with_bytes}
use Rattle.replay.proofs.Parts.{take-fitting}
use Rattle.replay_cases.proofs.listings.said.Goals as goal

pub returns : goal.returns
returns c =
    let s = c.args in
    let t = s.text.now in
    let first = c.number-seen.ensures ∙ (λ i. with_number t (c.begin.ensures i) s.count) in
    let part = take-fitting c.fitting-n.result s.count s.out.now c.fitting-n.ensures in
    c.bytes.ensures ∙ (λ i. with_bytes t (first i) (part i))
