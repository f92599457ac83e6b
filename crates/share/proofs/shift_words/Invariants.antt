-- `shift_words` meets its contract: i words are shifted, the rest is as it was.
use mathlib.Core.List.{[], ◌∷◌}
use Prim.Native.Nat.{ℕ, ◌+◌, ◌^◌}
use lib.ListN.{get_or}
use lib.IntN.{pos}
use lib.Signed.{shr_z}
use Rattle.algebra.proofs.Blocks.{Writing}
use Rattle.share.proofs.shift_words.Given as goal

abbrev pub invariant-loop-i : goal.invariant-loop-i
invariant-loop-i l = Writing 1 l.initial.s l.at l.n (λ (k : ℕ). shr_z (get_or l.initial.s (l.at + k) (pos 0)) (2 ^ l.t) ∷ []) l.s l.i
