-- `judge_texts` meets its contract.
use Rattle.judge_texts.proofs.Judging.{short, left_told, judged}
use Rattle.judge_texts.proofs.judge_texts.Goals as goal

pub returns-then-out-lt-MAX_ANSWER-clause-text : goal.returns-then-out-lt-MAX_ANSWER-clause-text
returns-then-out-lt-MAX_ANSWER-clause-text c =
    let a = c.args in
    short a.left.now a.right.now a.store.now a.limits a.gates.now a.first.now a.second.now a.work.now a.out.now c.if-out-lt-MAX_ANSWER.true

pub returns-in-Err-clause-text : goal.returns-in-Err-clause-text
returns-in-Err-clause-text c =
    let a = c.args in
    left_told a.left.now a.right.now a.store.now a.limits a.gates.now a.first.now a.second.now a.work.now a.out.now c.if-out-lt-MAX_ANSWER.false
    c.in-Err.ensures.side c.run_side.ensures.gates c.refuse-refused.ensures.text

pub returns-in-Ok : goal.returns-in-Ok
returns-in-Ok c =
    let a = c.args in
    let e = c.run_side.ensures in
    let f = c.judge_right.ensures in
    let q = judged a.left.now a.right.now a.store.now a.limits a.gates.now a.first.now a.second.now a.work.now a.out.now c.if-out-lt-MAX_ANSWER.false
    c.in-Ok.ensures.side e.gates e.res e.work f.answer f.text f.gates f.second f.work in
    record { answer = q.answer; text = q.text; gates = q.gates; first = q.first; second = q.second; work = q.work }
