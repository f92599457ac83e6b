-- `share_rows` meets its contract.
use native.Mathlib.Omega.{arith}
use Rattle.overlaps.proofs.Rows.{no_rows}
use Rattle.hermitian.proofs.Mirrored.{share_asks, share_more}
use Rattle.hermitian.proofs.share_rows.Goals as goal

pub loop-r-init : goal.loop-r-init
loop-r-init c = let s = c.args in (omega arith, no_rows s.s.now s.out s.w _)

pub share_row-requires : goal.share_row-requires
share_row-requires c = (share_asks c.requires.0 c.args.t c.loop-r-test.true c.loop-r.invariant.1, c.requires.1)

pub loop-r-preserved : goal.loop-r-preserved
loop-r-preserved c = (omega arith, share_more c.requires.0 c.args.t c.loop-r-test.true c.loop-r.invariant.1 c.share_row.ensures)
