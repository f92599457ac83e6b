-- `numbers::phase_case` meets its contract.
use Rattle.std.proofs.Common.{ℤ, pos, ◌∙◌}
use Rattle.std.proofs.lemmas.List.{length-replicate}
use Rattle.matrix.specs.Phase.{phase_answer}
use Rattle.replay.specs.Numerals.{word_at}
use Rattle.replay.specs.Record.{begun}
use Rattle.replay.specs.Answers.{with_phase}
use Rattle.replay.specs.Words.{placed_at}
use Rattle.replay_cases.specs.Words.{phase_case}
use Rattle.replay_cases.proofs.numbers.phase_case.Goals as goal

pub returns : goal.returns
unfolding phase_case
returns c =
    let t = c.args.text.now in
    let long = length-replicate {A = ℤ} 5120 (pos 0) in
    let d = c.read-d.ensures in
    let left = c.read_words-left.ensures.words ∙ (λ i. (placed_at t (d i).next (long i)).words) in
    let p = c.read_words-left.ensures.next ∙ (λ i. (placed_at t (d i).next (long i)).next) in
    let e = c.read-e.ensures ∙ (λ i. word_at t (p i)) in
    let right = c.read_words-right.ensures.words ∙ (λ i. (placed_at t (e i).next (long i)).words) in
    let q = c.read_words-right.ensures.next ∙ (λ i. (placed_at t (e i).next (long i)).next) in
    let answer = c.equivalent_up_to_global_phase-a.ensures ∙ (λ i. phase_answer (d i).size (left i) (e i).size (right i)) in
    let begin = c.begin.ensures ∙ (λ i. begun (q i)) in
    c.check_phase.ensures ∙ (λ i. with_phase t (begin i) (answer i))
