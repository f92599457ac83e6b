-- A product of four.
use Rattle.circuit.proofs.Products.{fourth_is, fourth_small}
use Rattle.circuit.proofs.sizes.Rows.fourth.Goals as goal

pub returns : goal.returns
returns c = rw (← c.count-d.ensures.0) (fourth_is c.count-d.result, fourth_small c.count-d.result c.count-d.ensures.1)
