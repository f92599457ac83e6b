-- `multiply_row` meets its contract: c products are written.
use Prim.Native.Nat.{ℕ}
use Rattle.algebra.proofs.Blocks.{Writing}
use Rattle.exact.specs.Exact.{number_of, list_of}
use Rattle.rows.specs.Inner.Rows.{scaled_row}
use Rattle.rows.proofs.multiply_row.Given as goal

abbrev pub invariant-loop-c : goal.invariant-loop-c
invariant-loop-c l = Writing 4 l.initial.buf l.to l.d (λ (k : ℕ). list_of (scaled_row l.initial.buf (number_of l.x) l.from k)) l.buf l.c
