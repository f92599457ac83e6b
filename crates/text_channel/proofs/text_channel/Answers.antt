-- `text_channel` meets its contract.
use Rattle.text_channel.proofs.Promises.{short, fine, told}
use Rattle.text_channel.proofs.text_channel.Goals as goal

pub returns-then-out-lt-MAX_ANSWER-clause-text : goal.returns-then-out-lt-MAX_ANSWER-clause-text
returns-then-out-lt-MAX_ANSWER-clause-text c =
    let a = c.args in
    short a.text.now a.store.now a.limits a.gates.now a.res.now a.work.now a.out.now c.if-out-lt-MAX_ANSWER.true

pub returns-in-Ok-clause-text : goal.returns-in-Ok-clause-text
returns-in-Ok-clause-text c =
    let a = c.args in
    fine a.text.now a.store.now a.limits a.gates.now a.res.now a.work.now a.out.now c.if-out-lt-MAX_ANSWER.false c.in-Ok.ensures.side

pub returns-in-Err-clause-text : goal.returns-in-Err-clause-text
returns-in-Err-clause-text c =
    let a = c.args in
    told a.text.now a.store.now a.limits a.gates.now a.res.now a.work.now a.out.now c.if-out-lt-MAX_ANSWER.false c.in-Err.ensures.side c.run_side.ensures.gates c.refuse.ensures.text
