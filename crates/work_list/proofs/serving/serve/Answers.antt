-- `serve` meets its contract.
use mathlib.Core.Path.{◌∙◌}
use Rattle.pair_list.specs.Inner.Spots.{pair_in}
use Rattle.work_list.specs.Serving.{lent}
use Rattle.work_list.proofs.Answering.{by_left, by_right, by-cost, by_serving, in_blanks}
use Rattle.work_list.proofs.serving.serve.Goals as goal

pub returns-in-Err-clause-value : goal.returns-in-Err-clause-value
returns-in-Err-clause-value c =
    let a = c.args in
    by_left (lent a.limits a.left.now a.right.now a.work.now a.allowance) a.spent (pair_in a.pair) c.in-Err.ensures.value

pub returns-in-Err-weigh-clause-value : goal.returns-in-Err-weigh-clause-value
returns-in-Err-weigh-clause-value c =
    let a = c.args in
    by_right (lent a.limits a.left.now a.right.now a.work.now a.allowance) a.spent (pair_in a.pair) c.in-Ok.ensures.value c.in-Err-weigh.ensures.value

pub returns-then-allowance-spent-clause-value : goal.returns-then-allowance-spent-clause-value
returns-then-allowance-spent-clause-value c =
    let a = c.args in
    by-cost (lent a.limits a.left.now a.right.now a.work.now a.allowance) a.spent (pair_in a.pair) c.in-Ok.ensures.value c.in-Ok-weigh.ensures.value c.requires.within c.if-allowance-spent.true

pub returns-clause-value : goal.returns-clause-value
returns-clause-value c =
    let a = c.args in
    let r = c.requires in
    by_serving (lent a.limits a.left.now a.right.now a.work.now a.allowance) a.spent (pair_in a.pair) c.in-Ok.ensures.value c.in-Ok-weigh.ensures.value r.within c.if-allowance-spent.false
    (c.run_pair-comparison.ensures.value ∙ in_blanks a.limits a.allowance (pair_in a.pair) r.left_blank r.right_blank r.work_blank)
