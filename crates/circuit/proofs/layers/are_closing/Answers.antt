-- Each end decides, or leaves it to the rest.
use mathlib.Core.Path.{sym, ap, ◌∙◌}
use mathlib.Core.Bool.{Bool, ◌&&◌}
use Prim.Native.Nat.{◌+◌}
use lib.ListN.{get_or, drop}
use borrow.Author.Tests.{lt-ltb, le-ltb}
use Rattle.circuit.specs.Layers.{closing}
use Rattle.circuit.proofs.Firing.{closing-more, closing-none}
use Rattle.circuit.proofs.layers.are_closing.Goals as goal

pub returns-then-e-last : goal.returns-then-e-last
returns-then-e-last c =
    let s = c.args.ends.now in
    let i = c.loop-e.e-index in
    let e = get_or s i 0 in
    sym (c.loop-e.invariant ∙ closing-more c.args.count c.loop-e.last s i c.loop-e-test.true
    ∙ ap (λ (b : Bool). b && closing c.args.count e (drop (i + 1) s)) (le-ltb c.loop-e.last e c.if-e-last.true))

pub loop-e-preserved : goal.loop-e-preserved
loop-e-preserved c =
    let s = c.args.ends.now in
    let i = c.loop-e.e-index in
    let e = get_or s i 0 in
    c.loop-e.invariant ∙ closing-more c.args.count c.loop-e.last s i c.loop-e-test.true
    ∙ ap (λ (b : Bool). b && closing c.args.count e (drop (i + 1) s)) (lt-ltb c.loop-e.last e c.if-e-last.false)

pub returns : goal.returns
returns c = sym (c.loop-e.invariant ∙ closing-none c.args.count c.loop-e.last c.args.ends.now c.loop-e.e-index c.loop-e-test.false)
