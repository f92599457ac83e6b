-- `read_operand` meets its contract: each word, read back from its bits, is itself.
use Rattle.std.proofs.Common.{arith}
use mir.Facts.{to_z-of_z}
use Rattle.c_scalars.proofs.words.read_operand.Goals as goal

pub returns : goal.returns
returns c = search (arith, to_z-of_z)
