-- `apply_rows` meets its contract.
use Rattle.branches.proofs.Applied.{none_applied, own-scaling, other_scaling, applied_more}
use Rattle.pauli_steps.specs.Inner.Rows.{rows_of}
use Rattle.pauli_run.proofs.measures.apply_rows.Goals as goal

pub loop-r-init : goal.loop-r-init
loop-r-init c = let a = c.args in none_applied a.work.now a.m (rows_of a.rows.now) a.old a.new a.d

pub combine_rows-requires : goal.combine_rows-requires
combine_rows-requires c = let h = c.loop-r-test.true in (own-scaling c.requires h c.loop-r.invariant c.row-row.ensures, other_scaling c.requires h c.loop-r.invariant c.row-row.ensures)

pub loop-r-preserved : goal.loop-r-preserved
loop-r-preserved c = applied_more c.requires c.loop-r-test.true c.loop-r.invariant c.row-row.ensures c.combine_rows.ensures
