-- The operations of a Pauli program, and what the questions count of each.
use Rattle.std.specs.Prelude.{List, [], ◌∷◌, ℕ, get_or}
use Rattle.pauli_nodes.specs.Nodes.{Reference}

-- a rotation about an axis by eighths; the same where an earlier outcome, by its number from 0, was one; and the measurement of an axis,
-- which makes the next outcome and writes it to one classical bit or to none
pub data Operation : Type 0 where
  rotate : Reference → ℕ → Operation
  rotate_if : Reference → ℕ → ℕ → Operation
  measure : Reference → List ℕ → Operation

abbrev pub axis : Operation → Reference
axis (rotate a k) = a
axis (rotate_if a k o) = a
axis (measure a bs) = a

-- the classical bits that it writes
abbrev pub bits : Operation → List ℕ
bits (rotate a k) = []
bits (rotate_if a k o) = []
bits (measure a bs) = bs

-- a measurement splits each branch in two
abbrev pub splits : Operation → ℕ
splits (rotate a k) = 0
splits (rotate_if a k o) = 0
splits (measure a bs) = 1

-- odd eighths weigh 2, eighths 2 and 6 weigh 1, eighths 0 and 4 nothing
abbrev pub turn_weight : ℕ → ℕ
turn_weight k = get_or (0 ∷ 2 ∷ 1 ∷ 2 ∷ 0 ∷ 2 ∷ 1 ∷ 2 ∷ []) k 0

abbrev pub weight : Operation → ℕ
weight (rotate a k) = turn_weight k
weight (rotate_if a k o) = turn_weight k
weight (measure a bs) = 2
