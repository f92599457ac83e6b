-- `well_formed::judge` meets its contract.
use mathlib.Core.Path.{ap, ◌∙◌}
use Rattle.std.specs.Prelude.{Ok}
use Rattle.verdict.proofs.Questions.{returned}
use Rattle.channel.proofs.Judging.{header_is}
use Rattle.channel.proofs.Judged.{all_kept, unheaded, broken, whole}
use Rattle.channel.proofs.well_formed.judge.Goals as goal

pub returns-in_err-h : goal.returns-in_err-h
returns-in_err-h c = returned _ c.from_residual.ensures.1 ∙ unheaded c.args.s.now c.in_err-h.ensures

pub returns-in-None : goal.returns-in-None
returns-in-None c = broken c.args.s.now c.in_ok-h.ensures _ c.form.ensures c.in-None.ensures

pub returns-in-Some-true : goal.returns-in-Some-true
returns-in-Some-true c = whole c.args.s.now c.in_ok-h.ensures _ c.form.ensures c.in-Some-true.ensures c.in-Some-true.field-0-test

pub returns-in-Some-false : goal.returns-in-Some-false
returns-in-Some-false c = ap Ok (header_is all_kept c.args.s.now c.in_ok-h.ensures).1 ∙ whole c.args.s.now c.in_ok-h.ensures _ c.form.ensures c.in-Some-false.ensures c.in-Some-false.field-0-test
