-- The ends decide, then the layers one by one.
use mathlib.Core.Path.{sym, ◌∙◌}
use native.Mathlib.Omega.{arith}
use Rattle.verdict.proofs.Questions.{returned}
use Rattle.circuit.proofs.Firing.{rises, ends-inside, clash-found, passing_more, passing_all, ends_bad, by_clash}
use Rattle.circuit.proofs.layers.judge_layers.Goals as goal

pub returns-then-not-are_closing : goal.returns-then-not-are_closing
returns-then-not-are_closing c = ends_bad c.args.words.now c.args.ends.now (sym c.are_closing.ensures ∙ c.if-not-are_closing.true)

pub judge_layer-requires : goal.judge_layer-requires
judge_layer-requires c =
    let h = c.loop-e.invariant in
    let l = c.loop-e-test.true in
    (omega (arith, rises h l), ends-inside h l)

pub returns-in_err-judge_layer : goal.returns-in_err-judge_layer
returns-in_err-judge_layer c =
    returned _ c.from_residual.ensures.1 ∙ clash-found c.loop-e.invariant c.loop-e-test.true c.in_err-judge_layer.ensures
    ∙ sym (by_clash c.args.words.now c.args.ends.now (sym c.are_closing.ensures ∙ c.if-not-are_closing.false))

pub loop-e-preserved : goal.loop-e-preserved
loop-e-preserved c = passing_more c.loop-e.invariant c.loop-e-test.true c.in_ok-judge_layer.ensures

pub returns : goal.returns
returns c =
    sym (by_clash c.args.words.now c.args.ends.now (sym c.are_closing.ensures ∙ c.if-not-are_closing.false) ∙ passing_all c.loop-e.invariant c.loop-e-test.false)
