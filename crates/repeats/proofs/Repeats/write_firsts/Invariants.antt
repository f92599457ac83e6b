-- `Repeats::write_firsts` meets its contract: r rows are written.
use mathlib.Core.Path.{◌≡◌}
use Prim.Native.Nat.{ℕ, ◌/◌, ◌%◌, ◌^◌, ◌≤◌, ◌<◌}
use lib.Dec.{eqb}
use mir.Syntax.{w64}
use mir.Val.{of_z}
use Rattle.algebra.specs.Lists.{all_below}
use Rattle.overlaps.proofs.Rows.{Rows}
use Rattle.repeats.specs.Inner.Repeats.{row_clear, rows_written}
use Rattle.repeats.proofs.Repeats.write_firsts.Given as goal

abbrev pub invariant-loop-r : goal.invariant-loop-r
invariant-loop-r l =
    let s = l.self in
    (l.r ≤ s.w) × Rows l.initial.res l.out s.w (rows_written l.initial.res l.out s.work.now s.k s.firsts.now s.w) l.res l.r
    × (0 < l.e → (j : ℕ) → j < 63 → eqb (of_z w64 l.g / 2 ^ j % 2) 0 ≡ all_below l.r (row_clear s.work.now s.k s.firsts.now s.w j))
