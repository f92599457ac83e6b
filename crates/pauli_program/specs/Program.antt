-- The branches of a Pauli program: each operation acts on a branch by Kraus operators, which may depend on the outcomes of the measures before it.
use Rattle.std.specs.Prelude.{cond, ℕ, eqb, get_or}
use mathlib.Core.List.{List, [], ◌∷◌, ◌++◌, map, foldl}
use Rattle.algebra.specs.Lists.{concat_map}
use Rattle.gate.specs.Embedding.{Matrix}
use Rattle.kraus.specs.Branch.{Store, Branch, KrausOperator, apply, start, write}
use Rattle.pauli_nodes.specs.Nodes.{Node, axis_matrix}
use Rattle.pauli_nodes.specs.Operations.{Operation, rotate, measure, rotate_if}
use Rattle.pauli_program.specs.Operators.{rotation, projector}

-- a branch, with the outcomes of the measures so far, the first one first
pub record Path : Type 0 where
  pub branch : Branch
  pub outcomes : List ℕ

-- a way that an operation may go: an operator, and the outcome that a measure has there
pub record Way : Type 0 where
  pub operator : KrausOperator
  pub seen : List ℕ

abbrev pub follow : ℕ → Path → Way → Path
follow n p w = record { branch = apply n p.branch w.operator; outcomes = p.outcomes ++ w.seen }

-- a rotation goes one way
abbrev pub turning : Matrix → ℕ → List Way
turning A k = record { operator = record { entry = rotation A k; writes = λ σ. σ }; seen = [] } ∷ []

-- a measure goes two ways, outcome 0 then 1, which is written to the bits
abbrev pub outcome : Matrix → List ℕ → ℕ → Way
outcome A bits v = record { operator = record { entry = projector A v; writes = write bits v }; seen = v ∷ [] }

module _ (n : ℕ) (nodes : List Node) where
  -- the ways of an operation after these outcomes; a rotation on a condition turns by nothing where the outcome is 0
  abbrev pub ways : Operation → List ℕ → List Way
  ways (rotate a k) os = turning (axis_matrix n nodes a) k
  ways (measure a bits) os = outcome (axis_matrix n nodes a) bits 0 ∷ outcome (axis_matrix n nodes a) bits 1 ∷ []
  ways (rotate_if a k j) os = turning (axis_matrix n nodes a) (cond (eqb (get_or os j 0) 1) k 0)

  -- each path in turn gives way to those that go on from it
  abbrev pub operation_step : List Path → Operation → List Path
  operation_step ps o = concat_map (λ (p : Path). map (follow n p) (ways o p.outcomes)) ps

  -- from the identity with the initial store, and no outcome
  abbrev pub paths : Store → List Operation → List Path
  paths σ os = foldl operation_step (map (λ (b : Branch). record { branch = b; outcomes = [] }) (start n σ)) os

  abbrev pub program_branches : Store → List Operation → List Branch
  program_branches σ os = map (λ (p : Path). p.branch) (paths σ os)
