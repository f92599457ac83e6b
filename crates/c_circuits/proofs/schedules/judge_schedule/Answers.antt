-- `judge_schedule` meets its contract: it answers what the judge of the crate below does.
use mathlib.Core.Path.{ap, ◌∙◌}
use Rattle.verdict.specs.Verdict.{verdict_number, verdict_index}
use Rattle.c_circuits.proofs.schedules.judge_schedule.Goals as goal

pub returns-clause-value : goal.returns-clause-value
returns-clause-value c = c.report.ensures.value ∙ ap verdict_number c.judge-v.ensures

pub returns-clause-index_after : goal.returns-clause-index_after
returns-clause-index_after c = c.report.ensures.index_after ∙ ap verdict_index c.judge-v.ensures
