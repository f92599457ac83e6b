-- `add_row` meets its contract.
use Prim.Native.Nat.{ℕ}
use Rattle.algebra.proofs.Blocks.{Writing}
use Rattle.exact.specs.Exact.{list_of}
use Rattle.overlaps.specs.Inner.Overlap.{row_added}
use Rattle.overlaps.proofs.add_row.Given as goal

abbrev pub invariant-loop-c : goal.invariant-loop-c
invariant-loop-c l = Writing 4 l.initial.res l.to l.n (λ (i : ℕ). list_of (row_added l.initial.res l.to l.work l.p l.k l.s i)) l.res l.c
