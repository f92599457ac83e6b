-- `steps::open` meets its contract.
use Rattle.std.proofs.Common.{sym}
use Rattle.qasm.proofs.Moves.{open_none, open_gate}
use Rattle.qasm.proofs.steps.open.Goals as goal

pub returns-in-None : goal.returns-in-None
returns-in-None c = open_none c.args.s c.args.gates.now _ c.requires.due (sym c.if-declares.ensures) c.in-None.ensures c.unknown.ensures

pub returns-in-Some : goal.returns-in-Some
returns-in-Some c =
    open_gate c.args.s c.args.gates.now _ c.requires.due (sym c.if-declares.ensures) c.in-Some.ensures c.in_gate.ensures.due c.in_gate.ensures.words c.in_gate.ensures.seen c.put_gate.ensures
