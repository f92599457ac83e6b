-- `add_rows` meets its contract: c sums are written.
use Prim.Native.Nat.{ℕ}
use Rattle.algebra.proofs.Blocks.{Writing}
use Rattle.exact.specs.Exact.{number_of, list_of}
use Rattle.rows.specs.Inner.Rows.{combined_row}
use Rattle.rows.proofs.add_rows.Given as goal

abbrev pub invariant-loop-c : goal.invariant-loop-c
invariant-loop-c l = Writing 4 l.initial.buf l.to l.d (λ (k : ℕ). list_of (combined_row l.initial.buf (number_of l.x) l.p (number_of l.y) l.q k)) l.buf l.c
