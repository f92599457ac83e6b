-- `write_row` meets its contract.
use Prim.Native.Nat.{ℕ, ◌+◌, ◌*◌}
use Rattle.algebra.proofs.Blocks.{Writing}
use Rattle.exact.specs.Exact.{number_of, list_of}
use Rattle.overlaps.specs.Inner.Overlap.{overlap}
use Rattle.overlaps.proofs.write_row.Given as goal

abbrev pub invariant-loop-c : goal.invariant-loop-c
invariant-loop-c l = Writing 4 l.initial.res l.to l.n (λ (i : ℕ). list_of (overlap (number_of l.x) l.s l.work (l.k + i * 4))) l.res l.c
