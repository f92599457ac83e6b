-- `reader::read_body` meets its contract.
use Rattle.std.proofs.Common.{◌∙◌}
use Rattle.qasm.proofs.Going.{returned}
use Rattle.qasm.proofs.Answer.{judged_fault, judged_due, judged_short, judged_all, again}
use Rattle.qasm.proofs.reader.read_body.Goals as goal

pub returns-in_err-s : goal.returns-in_err-s
returns-in_err-s c =
    let k = judged_fault c.args.gates.now c.args.size c.in_err-s.ensures in
    record { reply = returned c.from_residual.result c.from_residual.ensures.1 ∙ k.reply; gates = k.gates }

pub returns-then-not-is_empty : goal.returns-then-not-is_empty
returns-then-not-is_empty c =
    let k = judged_due c.args.gates.now c.args.size c.in_ok-s.ensures c.if-not-is_empty.ensures in
    record { reply = k.reply; gates = k.gates }

pub returns-then-gates-s : goal.returns-then-gates-s
returns-then-gates-s c =
    let k = judged_short c.args.gates.now c.args.size c.in_ok-s.ensures c.if-not-is_empty.ensures c.if-gates-s.true in
    record { reply = k.reply; gates = k.gates }

pub unwrap-requires : goal.unwrap-requires
unwrap-requires c = again c.args.gates.now c.args.size c.in_ok-s.ensures c.run-2.ensures

pub returns : goal.returns
returns c =
    let k = judged_all c.args.gates.now c.args.size c.in_ok-s.ensures c.if-not-is_empty.ensures c.if-gates-s.false c.run-2.ensures in
    record { reply = k.reply; gates = k.gates }
