-- Operation i writes the bit, or the answer is that of the operations after it.
use mathlib.Core.Path.{ap, ◌∙◌}
use mathlib.Core.Bool.{Bool, ◌||◌}
use Prim.Native.Nat.{◌+◌}
use Rattle.pauli_nodes.specs.Operations.{Operation}
use Rattle.pauli_words.specs.Words.{operation_of}
use Rattle.pauli_judge.specs.Footprint.{writes}
use Rattle.pauli_judge.proofs.Counted.{written-more}
use Rattle.pauli_judge.proofs.footprint.is_written.Invariants.{had}
use Rattle.pauli_judge.proofs.footprint.is_written.Goals as goal

pub loop-i-preserved : goal.loop-i-preserved
loop-i-preserved c =
    let a = c.args in
    let is = c.of-operation.ensures ∙ ap operation_of c.read_gate.ensures in
    c.loop-i.invariant ∙ written-more a.words.now a.bit c.loop-i.i c.writes.result c.loop-i-test.true (c.writes.ensures ∙ ap (λ (o : Operation). writes o a.bit) is)
    ∙ ap (λ (t : Bool). t || had a.words.now a.bit (c.loop-i.i + 1)) c.if-writes.false
