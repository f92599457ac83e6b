-- `channels::words_case` meets its contract.
use Rattle.std.proofs.Common.{ℕ, ℤ, pos, ◌∙◌, take, replicate}
use Rattle.std.proofs.lemmas.List.{length-replicate}
use Rattle.replay.specs.Numerals.{word_at, low_byte}
use Rattle.replay.specs.Record.{begun}
use Rattle.replay.specs.Words.{placed_at, numbers_at}
use Rattle.replay_cases.specs.Words.{with_four, words_case}
use Rattle.replay_cases.proofs.channels.words_case.Goals as goal

pub returns : goal.returns
unfolding words_case
returns c =
    let t = c.args.text.now in
    let long = length-replicate {A = ℤ} 1300 (pos 0) in
    let narrow = length-replicate {A = ℕ} 65 0 in
    let left = c.read_words-left.ensures.words ∙ (λ i. (placed_at t c.args.at (long i)).words) in
    let p = c.read_words-left.ensures.next ∙ (λ i. (placed_at t c.args.at (long i)).next) in
    let right = c.read_words-right.ensures.words ∙ (λ i. (placed_at t (p i) (long i)).words) in
    let q = c.read_words-right.ensures.next ∙ (λ i. (placed_at t (p i) (long i)).next) in
    let n = c.read-length.ensures ∙ (λ i. word_at t (q i)) in
    let store = c.read_numbers-store.ensures.words ∙ (λ i. (numbers_at low_byte t (n i).next (narrow i)).words) in
    let next = c.read_numbers-store.ensures.next ∙ (λ i. (numbers_at low_byte t (n i).next (narrow i)).next) in
    let begin = c.begin.ensures ∙ (λ i. begun (next i)) in
    c.four_calls.ensures ∙ (λ i. with_four t (begin i) (left i) (right i) (store i) (take (n i).size (replicate 100 (pos 0))))
