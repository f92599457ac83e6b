-- `scalar_words` meets its contract.
use Rattle.c_scalars.proofs.words.scalar_words.Goals as goal

pub returns : goal.returns
returns c = c.write_cell.ensures
