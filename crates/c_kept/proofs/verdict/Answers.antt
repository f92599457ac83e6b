-- `verdict` meets its contract: the call below was given the limits that the six words are.
use mathlib.Core.Path.{ap, ◌∙◌}
use Rattle.circuit.specs.declared.limits.Limits.{Limits}
use Rattle.verdict.specs.Verdict.{verdict_number}
use Rattle.kept_verdict.specs.Questions.{kept_verdict}
use Rattle.c_kept.proofs.verdict.Goals as goal

pub returns : goal.returns
returns c =
    let a = c.args in
    c.number.ensures ∙ ap verdict_number (c.judge_kept.ensures ∙ ap (λ (l : Limits). kept_verdict a.words.now a.store.now l a.result_words a.work_words) c.read_limits-l.ensures)
