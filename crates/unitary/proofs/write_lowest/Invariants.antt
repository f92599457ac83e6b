-- The invariant: the first i cells are written.
use Prim.Native.Nat.{ℕ}
use Rattle.algebra.proofs.Blocks.{Writing}
use Rattle.cells.specs.Cells.{cell_size, cell_words}
use Rattle.rows.specs.Inner.Rows.{held_in}
use Rattle.unitary.proofs.write_lowest.Given as goal

abbrev pub invariant-loop-i : goal.invariant-loop-i
invariant-loop-i l = Writing cell_size l.initial.res 0 l.n (λ (i : ℕ). cell_words (held_in l.work l.at l.n i)) l.res l.i
