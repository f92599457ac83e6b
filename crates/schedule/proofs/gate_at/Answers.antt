-- The gate in five words is the one of the list.
use native.Mathlib.Omega.{arith}
use Rattle.schedule.proofs.Asked.{gate_is}
use Rattle.schedule.proofs.gate_at.Goals as goal

pub returns : goal.returns
returns c = gate_is c.args.words.now c.args.i c.requires c.read_gate.ensures
