-- One pair for each number of eighths.
use Rattle.pauli_steps.proofs.Tables.{pair-at}
use Rattle.pauli_steps.proofs.coefficients.turning.Goals as goal

pub returns : goal.returns
returns c = pair-at c.args.k _ c.requires
