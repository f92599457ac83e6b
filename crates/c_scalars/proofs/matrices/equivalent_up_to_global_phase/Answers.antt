-- `equivalent_up_to_global_phase` meets its contract.
use mathlib.Core.Path.{ap, ◌∙◌}
use Rattle.c_scalars.specs.Matrices.{phase_number}
use Rattle.c_scalars.proofs.matrices.equivalent_up_to_global_phase.Goals as goal

pub returns : goal.returns
returns c = c.phase_number.ensures ∙ ap phase_number c.equivalent_up_to_global_phase-a.ensures
