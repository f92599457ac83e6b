-- `put_room` meets its contract.
use Rattle.text.proofs.Put.{none, then}
use Rattle.answer_lines.proofs.Choices.{if_zero, if_some}
use Rattle.answer_lines.proofs.put_room.Goals as goal

pub returns-else-gates-ne0 : goal.returns-else-gates-ne0
returns-else-gates-ne0 c = if_zero c.args.gates _ c.if-gates-ne0.false (none _)

pub returns-then-gates-ne0 : goal.returns-then-gates-ne0
returns-then-gates-ne0 c =
    if_some c.args.gates _ c.if-gates-ne0.true (then (then c.put_decimal.ensures c.put_labelled.ensures) c.put.ensures)
