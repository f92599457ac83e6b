-- `share_rows` meets its contract.
use Prim.Native.Nat.{◌≤◌}
use Rattle.overlaps.proofs.Rows.{Rows}
use Rattle.hermitian.specs.Inner.Upper.{upper_shared}
use Rattle.hermitian.proofs.share_rows.Given as goal

abbrev pub invariant-loop-r : goal.invariant-loop-r
invariant-loop-r l = (l.r ≤ l.w) × Rows l.initial.s l.out l.w (upper_shared l.initial.s l.out l.w l.t) l.s l.r
