-- `povm_effects` meets its contract. No callee is named, so that another one in its place is refused for what it ensures.
use mathlib.Core.Path.{ap, ◌∙◌}
use Rattle.verdict.specs.Verdict.{verdict_number}
use Rattle.c_channels.proofs.povm_effects.Goals as goal

pub returns-clause-value : goal.returns-clause-value
returns-clause-value c = c.number.ensures ∙ ap verdict_number assumption

pub returns-clause-res_after : goal.returns-clause-res_after
returns-clause-res_after c = assumption
