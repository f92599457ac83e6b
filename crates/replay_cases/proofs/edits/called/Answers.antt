-- `edits::called` meets its contract.
use Rattle.std.proofs.Common.{◌∙◌}
use Rattle.replay.specs.Record.{with_number}
use Rattle.replay.specs.Answers.{with_verdict}
use Rattle.replay.specs.Checksum.{checksum_of}
use Rattle.replay_cases.specs.Edits.{with_kept, with_copy}
use Rattle.replay_cases.proofs.edits.called.Goals as goal

pub returns : goal.returns
returns c =
    let s = c.args in
    let t = s.text.now in
    let words = c.edited-v.ensures.words in
    let begin = c.begin.ensures in
    let first = c.check_verdict-first.ensures ∙ (λ i. with_verdict t (begin i) (c.edited-v.ensures.verdict i)) in
    let sum = c.checksum.ensures ∙ (λ i. checksum_of (words i)) in
    let left = c.number-left.ensures ∙ (λ i. with_number t (first i) (sum i)) in
    let kept = c.check_kept-kept.ensures ∙ (λ i. with_kept t (left i) (words i) s.store.now s.res s.work) in
    c.check_copy.ensures ∙ (λ i. with_copy t (kept i) (words i) s.out.now)
