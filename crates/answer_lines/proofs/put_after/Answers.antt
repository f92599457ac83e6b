-- `put_after` meets its contract.
use Rattle.text.proofs.Put.{none, then}
use Rattle.answer_lines.proofs.Choices.{if_zero, if_some}
use Rattle.answer_lines.proofs.put_after.Goals as goal

pub returns-else-m-ne0 : goal.returns-else-m-ne0
returns-else-m-ne0 c = if_zero c.args.m _ c.if-m-ne0.false (none _)

pub returns-then-m-ne0 : goal.returns-then-m-ne0
returns-then-m-ne0 c =
    if_some c.args.m _ c.if-m-ne0.true (then (then c.put_all.ensures c.put_store.ensures) c.put_all-then-m-ne0.ensures)
