-- Each field is the word that the code reads.
use Rattle.std.proofs.Common.{refl}
use Rattle.c_circuits.proofs.read_limits.Goals as goal

pub returns : goal.returns
returns c = refl
