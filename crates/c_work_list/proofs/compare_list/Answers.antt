-- `compare_list` meets its contract.
use mathlib.Core.Path.{ap, ◌∙◌}
use Rattle.std.specs.Prelude.{ℕ, Result}
use Rattle.std.specs.Result.{result_unwrap_or}
use Rattle.circuit.specs.declared.limits.Limits.{Limits}
use Rattle.verdict.specs.declared.Refusal.{Refusal}
use Rattle.verdict.specs.Verdict.{verdict_number, verdict_index}
use Rattle.compare_list.specs.Call.{reply_of, answers_after, scalars_after, cleared}
use Rattle.c_work_list.proofs.compare_list.Goals as goal

pub returns : goal.returns
returns c =
    let a = c.args in
    let call = c.compare_list-reply.ensures in
    let l = c.read_limits-l.ensures in
    let reply = call.reply ∙ ap (λ (l : Limits). reply_of a.count a.words.now a.stores.now l a.allowance a.left.now a.right.now a.work.now a.answers.now a.scalars.now) l in
    record {
      value = c.report.ensures.value ∙ ap verdict_number reply;
      index_after = c.report.ensures.index_after ∙ ap verdict_index reply;
      total_after = c.unwrap_or.ensures ∙ ap (λ (r : Result ℕ Refusal). result_unwrap_or r 0) reply;
      answers_after = call.answers ∙ ap (λ (l : Limits). answers_after a.count a.words.now a.stores.now l a.allowance a.left.now a.right.now a.work.now a.answers.now a.scalars.now) l;
      scalars_after = call.scalars ∙ ap (λ (l : Limits). scalars_after a.count a.words.now a.stores.now l a.allowance a.left.now a.right.now a.work.now a.answers.now a.scalars.now) l;
      left_after = call.left ∙ ap (λ (l : Limits). cleared a.count a.words.now a.stores.now l a.allowance a.left.now a.right.now a.work.now a.answers.now a.scalars.now a.left.now) l;
      right_after = call.right ∙ ap (λ (l : Limits). cleared a.count a.words.now a.stores.now l a.allowance a.left.now a.right.now a.work.now a.answers.now a.scalars.now a.right.now) l;
      work_after = call.work ∙ ap (λ (l : Limits). cleared a.count a.words.now a.stores.now l a.allowance a.left.now a.right.now a.work.now a.answers.now a.scalars.now a.work.now) l;
    }
