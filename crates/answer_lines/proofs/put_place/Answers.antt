-- `put_place` meets its contract.
use Rattle.text.proofs.Put.{none, then}
use Rattle.answer_lines.proofs.Choices.{if_zero, if_some}
use Rattle.answer_lines.proofs.put_place.Goals as goal

pub returns-else-line-ne0 : goal.returns-else-line-ne0
returns-else-line-ne0 c = if_zero c.args.line _ c.if-line-ne0.false (none _)

pub returns-then-line-ne0 : goal.returns-then-line-ne0
returns-then-line-ne0 c =
    if_some c.args.line _ c.if-line-ne0.true (then (then c.put_labelled.ensures c.put_labelled-then-line-ne0.ensures) c.put_gate_end.ensures)
