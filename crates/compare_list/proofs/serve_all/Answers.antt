-- `serve_all` meets its contract.
use mathlib.Core.Path.{◌∙◌}
use native.Mathlib.Omega.{arith}
use Rattle.work_list.specs.Serving.{lent, answer_to}
use Rattle.compare_list.proofs.Along.{due, within-next, along-more, all_spent, all_answers, all_scalars}
use Rattle.compare_list.proofs.serve_all.Goals as goal

-- the pair that is due
pub pair_at-pair-requires : goal.pair_at-pair-requires
pair_at-pair-requires c = let a = c.args in due a.list.words.now a.list.stores.now _ a.list.count a.answers.now a.scalars.now c.loop-i.invariant.along c.loop-i-test.true

pub overflow_add-spent : goal.overflow_add-spent
overflow_add-spent c =
    let a = c.args in
    let g = c.loop-i.invariant in
    let answered = c.serve-answer.ensures.value ∙ (λ i. answer_to (lent a.limits (g.left_stays i) (g.right_stays i) (g.work_stays i) a.allowance) c.loop-i.spent (c.pair_at-pair.ensures i)) in
    omega (arith, c.charge-spent.ensures, c.ranges.allowance, within-next a.list.words.now a.list.stores.now _ a.list.count a.answers.now a.scalars.now g.along c.loop-i-test.true answered)

pub behind-place-requires : goal.behind-place-requires
behind-place-requires c = let a = c.args in due a.list.words.now a.list.stores.now _ a.list.count a.answers.now a.scalars.now c.loop-i.invariant.along c.loop-i-test.true

pub loop-i-preserved : goal.loop-i-preserved
loop-i-preserved c =
    let a = c.args in
    let g = c.loop-i.invariant in
    let e = c.serve-answer.ensures in
    let answered = e.value ∙ (λ i. answer_to (lent a.limits (g.left_stays i) (g.right_stays i) (g.work_stays i) a.allowance) c.loop-i.spent (c.pair_at-pair.ensures i)) in
    record {
      along = along-more a.list.words.now a.list.stores.now _ a.list.count a.answers.now a.scalars.now g.along c.loop-i-test.true answered c.put.ensures.answers_after c.put.ensures.scalars_after
          c.charge-spent.ensures c.behind-place.ensures.at c.behind-place.ensures.from;
      left_stays = e.left_unchanged ∙ g.left_stays;
      right_stays = e.right_unchanged ∙ g.right_stays;
      work_stays = e.work_unchanged ∙ g.work_stays;
    }

pub returns : goal.returns
returns c =
    let a = c.args in
    let g = c.loop-i.invariant in
    let h = c.loop-i-test.false in
    record {
      value = all_spent a.list.words.now a.list.stores.now _ a.list.count a.answers.now a.scalars.now g.along h;
      answers_after = all_answers a.list.words.now a.list.stores.now _ a.list.count a.answers.now a.scalars.now g.along h;
      scalars_after = all_scalars a.list.words.now a.list.stores.now _ a.list.count a.answers.now a.scalars.now g.along h;
      left_unchanged = g.left_stays;
      right_unchanged = g.right_stays;
      work_unchanged = g.work_stays;
    }
