-- What an operation read from five words writes.
use mathlib.Core.List.{[], ◌∷◌}
use Prim.Native.Nat.{ℕ, zero, suc, ◌≤◌}
use native.Mathlib.Omega.{arith}
use lib.ListN.{get_or, length}
use Rattle.gate.specs.Gate.{Gate}
use Rattle.pauli_nodes.specs.Operations.{Operation, rotate, rotate_if, measure, bits}
use Rattle.pauli_words.specs.Words.{axis_of, operation_of}

module _ (w : Gate) where
  abbrev among : ℕ → Operation
  among k = get_or (rotate (axis_of w) w.c ∷ rotate_if (axis_of w) w.c w.k ∷ measure (axis_of w) [] ∷ measure (axis_of w) (w.c ∷ []) ∷ []) k (measure (axis_of w) [])

  -- one bit at most
  pub one_bit : length (bits (operation_of w)) ≤ 1
  one_bit = go w.kind
    where
      go : (k : ℕ) → length (bits (among k)) ≤ 1
      go zero = omega arith
      go (suc zero) = omega arith
      go (suc (suc zero)) = omega arith
      go (suc (suc (suc zero))) = omega arith
      go (suc (suc (suc (suc k)))) = omega arith
