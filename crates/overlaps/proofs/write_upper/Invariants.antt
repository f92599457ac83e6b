-- `write_upper` meets its contract.
use Prim.Native.Nat.{◌≤◌}
use Rattle.overlaps.specs.Inner.Overlap.{upper_written}
use Rattle.overlaps.proofs.Rows.{Rows}
use Rattle.overlaps.proofs.write_upper.Given as goal

abbrev pub invariant-loop-r : goal.invariant-loop-r
invariant-loop-r l = (l.r ≤ l.w) × Rows l.initial.res l.out l.w (upper_written l.initial.res l.out l.work l.k l.w l.e) l.res l.r
