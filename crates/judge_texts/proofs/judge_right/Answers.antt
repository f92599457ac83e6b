-- `judge_right` meets its contract.
use Rattle.judge_texts.proofs.Judging.{right_told}
use Rattle.judge_texts.proofs.judge_right.Goals as goal

pub returns-in-Err-clause-text : goal.returns-in-Err-clause-text
returns-in-Err-clause-text c =
    let a = c.args in
    right_told a.l a.first.now a.right.now a.store.now a.limits a.gates.now a.second.now a.work.now a.out.now c.in-Err.ensures.side c.run_side.ensures.gates c.refuse-refused.ensures.text
