-- `turn_rows` meets its contract.
use mathlib.Core.Path.{◌≡◌}
use Rattle.gate.specs.Inner.Tables.{rows_by}
use Rattle.branches.proofs.Pairs.{square, paired}
use Rattle.branches.proofs.cores.turn_rows.Given as goal

abbrev pub invariant-loop-r : goal.invariant-loop-r
invariant-loop-r l = l.work ≡ square l.initial.work l.at l.d (paired l.initial.work l.m (rows_by l.held l.m l.core) l.at l.d l.r)
