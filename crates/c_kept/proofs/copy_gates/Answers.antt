-- `copy_gates` meets its contract: it answers and leaves what the call of the crate below does.
use mathlib.Core.Path.{ap, ◌∙◌}
use Rattle.verdict.specs.Verdict.{verdict_number}
use Rattle.c_kept.proofs.copy_gates.Goals as goal

pub returns-clause-value : goal.returns-clause-value
returns-clause-value c = c.number.ensures ∙ ap verdict_number c.copy_gates.ensures.value

pub returns-clause-out_after : goal.returns-clause-out_after
returns-clause-out_after c = c.copy_gates.ensures.out_after
