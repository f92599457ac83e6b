-- `programs::program_case` meets its contract.
use Rattle.std.proofs.Common.{ℕ, ◌∙◌}
use Rattle.std.proofs.lemmas.List.{length-replicate}
use Rattle.replay.specs.Numerals.{low_byte, low_word}
use Rattle.replay.specs.Words.{numbers_at}
use Rattle.replay.proofs.Reading.{following}
use Rattle.replay_cases.specs.Programs.{asked, program_case}
use Rattle.replay_cases.proofs.programs.program_case.Goals as goal

pub returns : goal.returns
unfolding program_case
returns c =
    let s = c.args in
    let t = s.text.now in
    let w0 = c.read-qubits.ensures in
    let w1 = following t s.at 0 w0 c.read-bits.ensures in
    let w2 = following t s.at 1 w1 c.read-after.ensures in
    let w3 = following t s.at 2 w2 c.read-spent.ensures in
    let narrow = length-replicate {A = ℕ} 65 0 in
    let wide = length-replicate {A = ℕ} 5200 0 in
    let store = c.read_numbers-store.ensures.words ∙ (λ i. (numbers_at low_byte t (w3 i).next (narrow i)).words) in
    let p = c.read_numbers-store.ensures.next ∙ (λ i. (numbers_at low_byte t (w3 i).next (narrow i)).next) in
    let nodes = c.read_numbers-nodes.ensures.words ∙ (λ i. (numbers_at low_word t (p i) (wide i)).words) in
    let q = c.read_numbers-nodes.ensures.next ∙ (λ i. (numbers_at low_word t (p i) (wide i)).next) in
    let operations = c.read_numbers-operations.ensures.words ∙ (λ i. (numbers_at low_word t (q i) (wide i)).words) in
    let o = c.read_numbers-operations.ensures.next ∙ (λ i. (numbers_at low_word t (q i) (wide i)).next) in
    let n = c.low.ensures ∙ (λ i. low_word (w0 i).size) in
    let m = c.low-2.ensures ∙ (λ i. low_word (w1 i).size) in
    c.asked.ensures ∙ (λ i. asked t (o i) (n i) (m i) (store i) (nodes i) (operations i) s.call (w2 i).size (w3 i).size)
