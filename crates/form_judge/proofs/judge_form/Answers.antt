-- `judge_form` meets its contract.
use mathlib.Core.Path.{sym, ◌∙◌, subst}
use Rattle.verdict.proofs.Questions.{returned}
use Rattle.channel.specs.Layout.{Form}
use Rattle.channel.specs.Inner.Shapes.{Room}
use Rattle.channel.proofs.Judging.{room_there}
use Rattle.form_judge.proofs.Headers.{unheaded_in, broken, whole}
use Rattle.form_judge.proofs.judge_form.Goals as goal

pub returns-in_err-h : goal.returns-in_err-h
returns-in_err-h c = returned _ c.from_residual.ensures.1 ∙ unheaded_in c.args.f c.args.s.now c.in_err-h.ensures

pub judge_chain-requires : goal.judge_chain-requires
judge_chain-requires c = subst (λ (F : Form). Room F c.args.s.now c.in_ok-h.h.bits c.in_ok-h.h.count) (sym c.form.ensures) (room_there c.args.f c.args.s.now c.in_ok-h.ensures)

pub returns-in-None : goal.returns-in-None
returns-in-None c = broken c.args.f c.args.s.now c.in_ok-h.ensures c.form.ensures _ c.in-None.ensures

pub returns-in-Some : goal.returns-in-Some
returns-in-Some c = whole c.args.f c.args.s.now c.in_ok-h.ensures c.form.ensures _ c.in-Some.ensures
