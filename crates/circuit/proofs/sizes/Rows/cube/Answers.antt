-- A product of three.
use Rattle.circuit.proofs.Products.{cube_is, cube_small}
use Rattle.circuit.proofs.sizes.Rows.cube.Goals as goal

pub returns : goal.returns
returns c = rw (← c.count-d.ensures.0) (cube_is c.count-d.result, cube_small c.count-d.result c.count-d.ensures.1)
