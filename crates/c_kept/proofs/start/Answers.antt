-- `start` meets its contract: it answers and leaves what the call of the crate below does.
use mathlib.Core.Path.{ap, ◌∙◌}
use Rattle.verdict.specs.Verdict.{verdict_number}
use Rattle.c_kept.proofs.start.Goals as goal

pub returns-clause-value : goal.returns-clause-value
returns-clause-value c = c.number.ensures ∙ ap verdict_number c.start.ensures.value

pub returns-clause-words_after : goal.returns-clause-words_after
returns-clause-words_after c = c.start.ensures.words_after
