-- `words::mark` meets its contract.
use Rattle.std.proofs.Common.{ℕ, ◌+◌, ◌%◌, [], ◌∷◌, length, pos}
use Rattle.algebra.proofs.Blocks.{Writing}
use Rattle.replay.proofs.words.mark.Given as goal

abbrev pub invariant-loop-i : goal.invariant-loop-i
invariant-loop-i l = Writing 1 l.initial.buf 0 (length l.initial.buf) (λ (k : ℕ). pos (k % 997 + 1) ∷ []) l.buf l.i
