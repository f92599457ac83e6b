-- `room::is_within` meets its contract.
use mathlib.Core.Path.{sym, ◌∙◌}
use Rattle.qasm_writer.proofs.Lengths.{no_room, room-left, head-before, line_before}
use Rattle.qasm_writer.proofs.room.is_within.Goals as goal

pub loop-i-init : goal.loop-i-init
loop-i-init c =
    let a = c.args in
    room-left _ _ (head-before a.qubits a.bits a.words.now c.decimal_length.ensures.value c.decimal_length-2.ensures.value) c.if-bytes-head.false

pub returns-then-left-n : goal.returns-then-left-n
returns-then-left-n c =
    let ws = c.args.words.now in
    no_room _ _ (line_before ws c.loop-i-test.true c.read_gate-g.ensures c.line_length-n.ensures) c.if-left-n.true ∙ sym c.loop-i.invariant

pub loop-i-preserved : goal.loop-i-preserved
loop-i-preserved c =
    let ws = c.args.words.now in
    c.loop-i.invariant ∙ room-left _ _ (line_before ws c.loop-i-test.true c.read_gate-g.ensures c.line_length-n.ensures) c.if-left-n.false
