-- `sum::checksum` meets its contract.
use Rattle.std.proofs.Common.{refl, rules, ap, ◌∙◌, get_or, pos}
use mir.Syntax.{w64}
use mir.Val.{SFits}
use mir.Facts.{to_z-of_z}
use Rattle.replay.specs.Checksum.{sums, with_word, joined}
use Rattle.replay.proofs.Folds.{fold_step, fold_end}
use Rattle.replay.proofs.sum.checksum.Goals as goal

pub loop-w-init : goal.loop-w-init
loop-w-init c = refl

pub loop-w-preserved : goal.loop-w-preserved
loop-w-preserved c =
    let l = c.args.words.now in
    let word : SFits w64 (get_or l c.loop-w.w-index (pos 0)) = search rules in
    fold_step with_word (sums 0 0) l c.loop-w.w-index c.loop-w.invariant (pos 0) c.loop-w-test.true (c.with_word-sums.ensures ∙ ap (with_word c.loop-w.sums) (to_z-of_z word))

pub returns : goal.returns
returns c = c.joined.ensures ∙ ap joined (fold_end with_word (sums 0 0) c.args.words.now c.loop-w.w-index c.loop-w.invariant c.loop-w-test.false)
