-- `mix_constants` meets its contract: c numbers of each row are written.
use Prim.Native.Nat.{ℕ}
use Rattle.algebra.proofs.Blocks.{Writing}
use Rattle.exact.specs.Exact.{number_of, list_of}
use Rattle.share.specs.Share.{with_numerators}
use Rattle.rows.specs.Inner.Rows.{combined_row}
use Rattle.rows.proofs.mix_constants.Given as goal

abbrev pub invariant-loop-c : goal.invariant-loop-c
invariant-loop-c l =
    Writing 4 (with_numerators l.initial.buf l.p l.c (combined_row l.initial.buf (number_of l.x) l.p (number_of l.y) l.q)) l.q l.d
    (λ (k : ℕ). list_of (combined_row l.initial.buf (number_of l.v) l.q (number_of l.u) l.p k)) l.buf l.c
