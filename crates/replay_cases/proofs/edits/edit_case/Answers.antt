-- `edits::edit_case` meets its contract.
use Rattle.std.proofs.Common.{ℕ, ℤ, pos, ◌∙◌, min, take}
use Rattle.std.proofs.lemmas.List.{length-replicate}
use Rattle.replay.specs.Numerals.{word_no, low_byte}
use Rattle.replay.specs.Words.{all_placed, placed_at, numbers_at}
use Rattle.replay_cases.specs.Edits.{edit_at, behind_edit, lent, edit_case}
use Rattle.replay_cases.proofs.edits.edit_case.Goals as goal

pub returns : goal.returns
unfolding edit_case
returns c =
    let t = c.args.text.now in
    let long = length-replicate {A = ℤ} 5200 (pos 0) in
    let narrow = length-replicate {A = ℕ} 65 0 in
    let given = c.fill_words-given.ensures in
    let len = given.len ∙ (λ i. min (word_no t c.args.at 0).size (long i)) in
    let all = given.words ∙ (λ i. (all_placed t c.args.at (long i)).words) in
    let p = given.next ∙ (λ i. (placed_at t c.args.at (long i)).next) in
    let edit = c.read_edit-edit.ensures.edit ∙ (λ i. edit_at t (p i)) in
    let next = c.read_edit-edit.ensures.next ∙ (λ i. behind_edit t (p i)) in
    let store = c.read_numbers-store.ensures.words ∙ (λ i. (numbers_at low_byte t (next i) (narrow i)).words) in
    let q = c.read_numbers-store.ensures.next ∙ (λ i. (numbers_at low_byte t (next i) (narrow i)).next) in
    c.lent.ensures ∙ (λ i. lent t (q i) (edit i) (take (len i) (all i)) (store i))
