-- `judge_channel` meets its contract.
use mathlib.Core.Path.{sym, ◌∙◌}
use Rattle.verdict.proofs.Questions.{returned}
use Rattle.form_judge.proofs.Headers.{no_header, no_chain, some_zero, judged_is}
use Rattle.form_judge.proofs.judge_channel.Goals as goal

pub returns-in_err-shape : goal.returns-in_err-shape
returns-in_err-shape c = returned _ c.from_residual.ensures.1 ∙ no_header c.args.to c.args.s.now c.in_err-shape.ensures

pub returns-in_default : goal.returns-in_default
returns-in_default c = no_chain c.args.to c.args.s.now c.in_ok-shape.ensures c.form.ensures (sym c.in_default.is ∙ c.judge_blocks.ensures)

pub returns-then-f : goal.returns-then-f
returns-then-f c = some_zero c.args.to c.args.s.now c.in_ok-shape.ensures c.form.ensures (sym c.in-Some.is ∙ c.judge_blocks.ensures) c.if-f.true

pub returns : goal.returns
returns c = judged_is c.args.to c.args.s.now c.in_ok-shape.ensures c.form.ensures (sym c.in-Some.is ∙ c.judge_blocks.ensures) c.if-f.false
