-- `report` meets its contract.
use Rattle.c_scalars.proofs.words.report.Goals as goal

pub returns : goal.returns
returns g c = record { value = c.number.ensures; index_after = c.index.ensures }
