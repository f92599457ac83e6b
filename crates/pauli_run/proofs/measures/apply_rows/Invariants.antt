-- `apply_rows` meets its contract.
use Rattle.branches.proofs.Applied.{Applied}
use Rattle.pauli_steps.specs.Inner.Rows.{rows_of}
use Rattle.pauli_run.proofs.measures.apply_rows.Given as goal

abbrev pub invariant-loop-r : goal.invariant-loop-r
invariant-loop-r l = Applied l.initial.work l.m (rows_of l.rows) l.old l.new l.d l.work l.r
