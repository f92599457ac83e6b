-- `Repeats::finish_rows` meets its contract: r rows are finished.
use Prim.Native.Nat.{◌≤◌}
use Rattle.overlaps.proofs.Rows.{Rows}
use Rattle.repeats.specs.Inner.Repeats.{rows_finished}
use Rattle.repeats.proofs.Repeats.finish_rows.Given as goal

abbrev pub invariant-loop-r : goal.invariant-loop-r
invariant-loop-r l =
    let s = l.self in
    (l.r ≤ s.w) × Rows l.initial.res l.out s.w (rows_finished l.initial.res l.out s.work.now s.k s.firsts.now s.w l.t) l.res l.r
