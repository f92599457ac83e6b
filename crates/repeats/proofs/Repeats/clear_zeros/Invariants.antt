-- `Repeats::clear_zeros` meets its contract: r rows are cleared, if they are rows of zeros, once those that wait are.
use Prim.Native.Nat.{◌≤◌}
use Rattle.overlaps.proofs.Rows.{Rows}
use Rattle.repeats.specs.Inner.Repeats.{rows_cleared}
use Rattle.repeats.proofs.Rows.{waiting}
use Rattle.repeats.proofs.Repeats.clear_zeros.Given as goal

abbrev pub invariant-loop-r : goal.invariant-loop-r
invariant-loop-r l =
    let s = l.self in
    (l.from ≤ l.r) × ((l.r ≤ s.w) × Rows l.initial.res l.out s.w (rows_cleared l.initial.res l.out s.work.now s.k s.w) (waiting l.res l.out s.w l.from l.r) l.r)
