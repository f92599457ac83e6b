-- `compare::compare_chains` meets its contract.
use Prim.Native.Nat.{◌+◌}
use Rattle.compare.proofs.Merging.{Walking, size}
use Rattle.compare.proofs.compare_chains.Given as goal

abbrev pub invariant-loop-turn : goal.invariant-loop-turn
invariant-loop-turn l = Walking l.left l.right l.w l.a l.b

abbrev pub decreases-loop-turn : goal.decreases-loop-turn
decreases-loop-turn l = size l.a + size l.b
