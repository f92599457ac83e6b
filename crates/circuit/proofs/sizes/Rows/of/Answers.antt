-- A power of a small exponent is small.
use lib.Pow.{pow_mono}
use Rattle.circuit.proofs.sizes.Rows.of.Goals as goal

pub invariant_of-result : goal.invariant_of-result
invariant_of-result c = rw c.power.ensures (pow_mono c.requires)
