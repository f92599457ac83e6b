-- `effects_in` meets its contract.
use mathlib.Core.Path.{sym, ap, ◌∙◌, subst}
use mathlib.Core.Bool.{cond, not}
use Prim.Native.Nat.{ℕ}
use Rattle.verdict.specs.Questions.{Verdict}
use Rattle.verdict.proofs.Questions.{returned}
use Rattle.channel.specs.declared.Shape.{Shape}
use Rattle.channel.specs.Layout.{dim_at, count_at}
use Rattle.effects.specs.Effects.{effects_words, result_by}
use Rattle.effects.specs.Inner.Readable.{Dim}
use Rattle.effects.specs.Inner.Strides.{strided_at, Strides, form_at}
use Rattle.effects.proofs.Strides.{form_strides, form-records}
use Rattle.effects.proofs.Records.{dim_of}
use Rattle.effects.proofs.Answers.{verdict_refused, verdict_accepted, answer-shape, ready}
use Rattle.effects.proofs.effects_in.Goals as goal

pub returns-in_err-h : goal.returns-in_err-h
returns-in_err-h c =
    let l = c.args.channel.now in
    let room = c.args.res.now in
    let refusal = verdict_refused l room c.in_err-h.ensures in
    record {
      verdict = returned _ c.from_residual.ensures.1 ∙ refusal;
      words = ap (λ (v : Verdict). result_by (form_at c.args.textbook) v l room) refusal;
    }

pub write_effects-requires : goal.write_effects-requires
write_effects-requires c =
    let l = c.args.channel.now in
    let able = ready l c.args.res.now c.in_ok-h.ensures in
    let d = c.in_ok-h.h.dim in
    let dim : Dim d = subst (λ (h : Shape). Dim h.dim) (sym (answer-shape l c.args.res.now c.in_ok-h.ensures)) (dim_of l able.form) in
    (able, subst (λ (r : ℕ). Strides d r c.step_of-cols.result) (sym c.step_of-rows.ensures) (subst (Strides d (cond (not c.args.textbook) d 1)) (sym c.step_of-cols.ensures) (form_strides c.args.textbook dim)))

pub returns-clause-words : goal.returns-clause-words
returns-clause-words c =
    let t = c.args.textbook in
    let l = c.args.channel.now in
    let room = c.args.res.now in
    let is = answer-shape l room c.in_ok-h.ensures in
    c.write_effects.ensures ∙ (λ i. effects_words (strided_at (c.step_of-rows.ensures i) (c.step_of-cols.ensures i)) l room)
    ∙ ap (λ (h : Shape). effects_words (strided_at (cond (not t) h.dim 1) (cond t h.dim 1)) l room) is
    ∙ form-records t l (dim_at l) (count_at l) _ (dim_of l (ready l room c.in_ok-h.ensures).form)
    ∙ ap (λ (v : Verdict). result_by (form_at t) v l room) (verdict_accepted l room c.in_ok-h.ensures)
