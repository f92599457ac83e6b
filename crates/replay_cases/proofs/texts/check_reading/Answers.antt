-- `texts::check_reading` meets its contract.
use Rattle.std.proofs.Common.{◌≡◌, refl, ◌∙◌, get_or, take}
use Rattle.std.specs.Prelude.{Result, Ok, Err}
use Rattle.qasm.specs.declared.reader.Reading.{Reading}
use Rattle.qasm.specs.declared.reader.Fault.{Fault}
use Rattle.replay.specs.Record.{with_numbers}
use Rattle.replay.proofs.Parts.{take-fitting}
use Rattle.replay_cases.specs.Texts.{reading_numbers, words_read}
use Rattle.replay_cases.proofs.texts.check_reading.Goals as goal

count : (a : Result Reading Fault) → get_or (reading_numbers a) 3 0 ≡ words_read a
count (Ok r) = refl
count (Err f) = refl

pub returns : goal.returns
returns c =
    let s = c.args in
    let t = s.text.now in
    let w = s.words.now in
    let reply = c.reading_numbers-numbers.ensures in
    let first = c.numbers.ensures ∙ (λ i. with_numbers t s.seen (reply i)) in
    let part = take-fitting c.fitting-n.result (get_or c.reading_numbers-numbers.result 3 0) w c.fitting-n.ensures
    ∙ (λ i. take (get_or (reply i) 3 0) w) ∙ (λ i. take (count s.answer i) w) in
    c.numbers-2.ensures ∙ (λ i. with_numbers t (first i) (part i))
