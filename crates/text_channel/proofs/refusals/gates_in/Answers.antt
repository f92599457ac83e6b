-- `refusals::gates_in` meets its contract.
use native.Mathlib.Omega.{arith}
use Rattle.text_channel.proofs.Few.{gates-few}
use Rattle.text_channel.proofs.refusals.gates_in.Goals as goal

pub returns : goal.returns
returns c = omega (arith, c.find_gate.ensures.before, gates-few c.args.text.now)
