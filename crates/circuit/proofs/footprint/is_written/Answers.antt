-- The invariant: no gate passed so far writes the bit, so the answer is that of the rest.
use mathlib.Core.Path.{◌≡◌, ap, ◌∙◌}
use mathlib.Core.Bool.{Bool, ◌||◌}
use Prim.Native.Nat.{◌+◌}
use Rattle.gate.specs.Inner.Words.{gate_of}
use Rattle.circuit.proofs.Counts.{written-more}
use Rattle.circuit.proofs.footprint.is_written.Invariants.{had}
use Rattle.circuit.proofs.footprint.is_written.Lts as lts
use Rattle.circuit.proofs.footprint.is_written.Reads as reads
use Rattle.circuit.proofs.footprint.is_written.Tie as tie
use Rattle.circuit.proofs.footprint.is_written.Goals as goal

abbrev After-writes : Type 0
After-writes = lts.After-writes tie.the-claims reads.Pre reads.Post goal.the-invariant-loop-i goal.the-decreases-loop-i

-- gate i writes the bit, or the answer is that of the gates after it
here : (c : After-writes) → let a = c.args in
    had a.words.now a.bit a.first ≡ c.writes.result || had a.words.now a.bit (c.loop-i.i + 1)
here c =
    let a = c.args in
    c.loop-i.invariant ∙ written-more a.words.now a.bit c.loop-i.i (gate_of c.read_gate-g.result) c.writes.result c.loop-i-test.true c.read_gate-g.ensures c.writes.ensures

pub loop-i-preserved : goal.loop-i-preserved
loop-i-preserved c =
    let a = c.args in
    here c.before.before ∙ ap (λ (t : Bool). t || had a.words.now a.bit (c.loop-i.i + 1)) c.if-writes.false
