-- `texts::write_case` meets its contract.
use Rattle.std.proofs.Common.{ℕ, ◌∙◌, take, replicate}
use Rattle.std.proofs.lemmas.List.{length-replicate}
use Rattle.replay.specs.Numerals.{word_at, low_word}
use Rattle.replay.specs.Record.{begun}
use Rattle.replay.specs.Words.{numbers_at}
use Rattle.replay.proofs.Reading.{following}
use Rattle.replay.proofs.Parts.{take-room}
use Rattle.replay_cases.specs.Texts.{with_written}
use Rattle.replay_cases.proofs.texts.write_case.Goals as goal

pub returns : goal.returns
returns c =
    let t = c.args.text.now in
    let n = c.read-qubits.ensures in
    let m = following t c.args.at 0 n c.read-bits.ensures in
    let long = length-replicate {A = ℕ} 1024 0 in
    let words = c.read_numbers-given.ensures.words ∙ (λ i. (numbers_at low_word t (m i).next (long i)).words) in
    let next = c.read_numbers-given.ensures.next ∙ (λ i. (numbers_at low_word t (m i).next (long i)).next) in
    let room = c.read-room.ensures ∙ (λ i. word_at t (next i)) in
    let qubits = c.low.ensures ∙ (λ i. low_word (n i).size) in
    let bits = c.low-2.ensures ∙ (λ i. low_word (m i).size) in
    let out = take-room c.fitting-n.result c.read-room.result.size 300 0 c.fitting-n.ensures ∙ (λ i. take (room i).size (replicate 300 0)) in
    c.was_written.ensures ∙ (λ i. with_written t (begun (room i).next) (qubits i) (bits i) (words i) (out i))
