-- One operation more is counted at each pass.
use Rattle.std.proofs.Common.{ap, ◌∙◌}
use Prim.Native.Nat.{◌+◌}
use Rattle.circuit.proofs.Counts.{gates-behind}
use Rattle.pauli_nodes.specs.Nodes.{Reference}
use Rattle.pauli_words.specs.Words.{operation_of}
use Rattle.pauli_words.specs.Inner.Code.{operation_in}
use Rattle.pauli_judge.specs.Inner.Newly.{newly}
use Rattle.pauli_judge.proofs.Counted.{counted-more, counted-all}
use Rattle.pauli_judge.proofs.footprint.ProgramFootprint.of.Goals as goal

pub loop-i-preserved : goal.loop-i-preserved
loop-i-preserved c =
    let ws = c.args.program.operations.now in
    let new = c.newly_written-written.ensures ∙ ap (newly c.args.program.bits (operation_in c.of-operation.result)) (gates-behind ws (c.loop-i.i + 1)) in
    counted-more ws c.loop-i.invariant c.loop-i-test.true (c.of-operation.ensures ∙ ap operation_of c.read_gate.ensures)
    (ap (λ (a : Reference). a.node) c.axis.ensures) c.max-nodes.ensures c.splits.ensures new c.weight_of-weight.ensures

pub returns : goal.returns
returns c =
    counted-all c.args.program.operations.now c.loop-i.invariant c.loop-i-test.false c.max.result c.frame_nodes.result c.frame_nodes.ensures c.max.ensures
