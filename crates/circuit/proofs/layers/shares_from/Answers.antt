-- The invariant: no gate before j shares with gate i.
use mathlib.Core.Path.{sym, ◌∙◌}
use native.Mathlib.Omega.{arith}
use Rattle.gate.specs.Gate.{share}
use Rattle.circuit.specs.Inner.Firing.{sharing}
use Rattle.circuit.proofs.Firing.{any_more, any_found}
use Rattle.circuit.proofs.layers.shares_from.Goals as goal

pub returns-then-shares : goal.returns-then-shares
returns-then-shares c =
    let a = c.args in
    sym (any_found (sharing a.words.now a.i) a.start c.loop-j.j a.i (omega arith) (omega arith)
    ((λ k. share (sym c.read_gate-g.ensures k) (sym c.read_gate-h.ensures k)) ∙ sym c.shares.ensures ∙ c.if-shares.true))

pub loop-j-preserved : goal.loop-j-preserved
loop-j-preserved c =
    let a = c.args in
    any_more (sharing a.words.now a.i) a.start c.loop-j.j (omega arith) c.loop-j.invariant
    ((λ k. share (sym c.read_gate-g.ensures k) (sym c.read_gate-h.ensures k)) ∙ sym c.shares.ensures ∙ c.if-shares.false)
