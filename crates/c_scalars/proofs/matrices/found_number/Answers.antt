-- `found_number` meets its contract where the matrices are different.
use mathlib.Core.Path.{ap, sym}
use Rattle.c_scalars.specs.Matrices.{found_number}
use Rattle.c_scalars.proofs.matrices.found_number.Goals as goal

pub returns-in-Different : goal.returns-in-Different
returns-in-Different c = ap found_number (sym c.in-Different.is)
