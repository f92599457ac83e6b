-- `write_upper` meets its contract.
use native.Mathlib.Omega.{arith}
use Rattle.overlaps.proofs.Rows.{no_rows, start_asks, start_more}
use Rattle.overlaps.proofs.write_upper.Goals as goal

pub loop-r-init : goal.loop-r-init
loop-r-init c = let s = c.args in (omega arith, no_rows s.res.now s.out s.w _)

pub start_row-requires : goal.start_row-requires
start_row-requires c = start_asks c.requires c.loop-r-test.true c.loop-r.invariant.1 c.raise-s.ensures

pub loop-r-preserved : goal.loop-r-preserved
loop-r-preserved c = (omega arith, start_more c.requires c.loop-r-test.true c.loop-r.invariant.1 c.raise-s.ensures c.start_row.ensures)
