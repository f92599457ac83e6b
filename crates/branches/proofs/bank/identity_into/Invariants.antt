-- `identity_into` meets its contract.
use mathlib.Core.List.{[], ◌∷◌}
use Prim.Native.Nat.{ℕ, ◌+◌, ◌*◌}
use lib.IntN.{pos}
use Rattle.algebra.proofs.Blocks.{Writing}
use Rattle.branches.proofs.bank.identity_into.Given as goal

abbrev pub invariant-loop-r : goal.invariant-loop-r
invariant-loop-r l = Writing ((l.d + 1) * 4) l.initial.work l.at l.d (λ (i : ℕ). pos 1 ∷ []) l.work l.r
