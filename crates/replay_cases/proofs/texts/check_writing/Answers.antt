-- `texts::check_writing` meets its contract.
use Rattle.std.proofs.Common.{◌∙◌, get_or, take}
use Rattle.replay.specs.Record.{with_numbers, with_bytes}
use Rattle.replay.proofs.Parts.{take-fitting}
use Rattle.replay_cases.proofs.texts.check_writing.Goals as goal

pub returns : goal.returns
returns c =
    let s = c.args in
    let t = s.text.now in
    let reply = c.writing_numbers-numbers.ensures in
    let first = c.numbers.ensures ∙ (λ i. with_numbers t s.seen (reply i)) in
    let part = take-fitting c.fitting-n.result (get_or c.writing_numbers-numbers.result 2 0) s.out.now c.fitting-n.ensures ∙ (λ i. take (get_or (reply i) 2 0) s.out.now) in
    c.bytes.ensures ∙ (λ i. with_bytes t (first i) (part i))
