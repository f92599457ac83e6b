-- `put_gate_end` meets its contract.
use lib.ListN.{length}
use Rattle.text.proofs.Put.{then}
use Rattle.answer_lines.proofs.Choices.{if_some}
use Rattle.answer_lines.proofs.put_gate_end.Goals as goal

pub returns-else-gate-eq0 : goal.returns-else-gate-eq0
returns-else-gate-eq0 c =
    if_some (length c.args.gate.now) _ c.if-gate-eq0.false (then c.put_all.ensures c.put_gates.ensures)
