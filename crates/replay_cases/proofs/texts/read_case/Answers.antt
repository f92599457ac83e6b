-- `texts::read_case` meets its contract.
use Rattle.std.proofs.Common.{◌∙◌, take, replicate}
use Rattle.replay.specs.Numerals.{word_at}
use Rattle.replay.specs.Record.{begun}
use Rattle.replay.proofs.Parts.{take-room}
use Rattle.replay_cases.specs.Texts.{with_read}
use Rattle.replay_cases.proofs.texts.read_case.Goals as goal

pub returns : goal.returns
returns c =
    let t = c.args.text.now in
    let line = c.read_line-line.ensures in
    let room = c.read-room.ensures ∙ (λ i. word_at t (line.next i)) in
    let words = take-room c.fitting-n.result c.read-room.result.size 1024 0 c.fitting-n.ensures ∙ (λ i. take (room i).size (replicate 1024 0)) in
    c.was_read.ensures ∙ (λ i. with_read t (begun (room i).next) (line.bytes i) (words i))
