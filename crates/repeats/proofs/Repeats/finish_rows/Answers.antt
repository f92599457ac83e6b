-- `Repeats::finish_rows` meets its contract.
use native.Mathlib.Omega.{arith}
use Rattle.overlaps.proofs.Rows.{no_rows, rows-room}
use Rattle.repeats.proofs.Rows.{finish_more}
use Rattle.repeats.proofs.Repeats.finish_rows.Goals as goal

pub loop-r-init : goal.loop-r-init
loop-r-init c = (omega arith, no_rows c.args.res.now c.args.out c.args.self.w _)

pub finish_row-requires : goal.finish_row-requires
finish_row-requires c = (record { inside = c.loop-r-test.true; room = rows-room c.loop-r-test.true c.loop-r.invariant.1 c.requires.0 }, c.requires.1)

pub loop-r-preserved : goal.loop-r-preserved
loop-r-preserved c = (omega arith, finish_more c.args.t c.args.self.repeat c.requires.0 c.loop-r-test.true c.loop-r.invariant.1 c.finish_row.ensures)
