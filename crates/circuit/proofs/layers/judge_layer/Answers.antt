-- The invariant: the gates passed so far share with none before them, so the rest decides.
use mathlib.Core.Path.{sym, ◌∙◌}
use Rattle.circuit.specs.Inner.Firing.{shares_from}
use Rattle.circuit.proofs.Firing.{clashes, clashes_not}
use Rattle.circuit.proofs.layers.judge_layer.Goals as goal

pub returns-then-shares_from : goal.returns-then-shares_from
returns-then-shares_from c =
    let a = c.args in
    clashes (shares_from a.words.now a.start) c.loop-i.i a.end c.loop-i-test.true (sym c.shares_from.ensures ∙ c.if-shares_from.true) ∙ sym c.loop-i.invariant

pub loop-i-preserved : goal.loop-i-preserved
loop-i-preserved c =
    let a = c.args in
    c.loop-i.invariant ∙ clashes_not (shares_from a.words.now a.start) c.loop-i.i a.end c.loop-i-test.true (sym c.shares_from.ensures ∙ c.if-shares_from.false)
