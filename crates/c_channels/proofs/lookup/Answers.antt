-- `lookup` meets its contract.
use mathlib.Core.Path.{ap}
use Rattle.c_channels.specs.Channels.{start_of}
use Rattle.c_channels.proofs.lookup.Goals as goal

pub returns-in-Some : goal.returns-in-Some
returns-in-Some c = ap start_of c.in-Some.ensures

pub returns-in-None : goal.returns-in-None
returns-in-None c = ap start_of c.in-None.ensures
