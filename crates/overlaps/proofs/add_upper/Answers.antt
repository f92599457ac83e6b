-- `add_upper` meets its contract.
use native.Mathlib.Omega.{arith}
use Rattle.algebra.proofs.Blocks.{block_in_lem}
use Rattle.overlaps.proofs.Rows.{no_rows, row_asks, add_more}
use Rattle.overlaps.proofs.add_upper.Goals as goal

pub loop-r-init : goal.loop-r-init
loop-r-init c = let s = c.args in (omega arith, no_rows s.res.now s.out s.w _)

pub overflow_add-p : goal.overflow_add-p
overflow_add-p c = omega (arith, c.requires.lift.factors.room, block_in_lem c.loop-r-test.true 4)

pub add_row-requires : goal.add_row-requires
add_row-requires c = row_asks c.requires c.loop-r-test.true c.loop-r.invariant.1 c.raise-s.ensures

pub loop-r-preserved : goal.loop-r-preserved
loop-r-preserved c =
    (omega arith, add_more c.requires c.loop-r-test.true c.loop-r.invariant.1 c.raise-s.ensures c.add_row.ensures)
