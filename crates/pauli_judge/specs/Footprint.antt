-- What a Pauli program asks for: the numbers that the questions read.
use Rattle.std.specs.Prelude.{Bool, cond, List, [], ◌∷◌, ℕ, suc, ◌+◌, ◌*◌, max, eqb, length}
use Rattle.algebra.specs.Lists.{total, marks}
use Rattle.gate.specs.Gate.{elem}
use Rattle.pauli_nodes.specs.Operations.{Operation, axis, bits, splits, weight}
use Rattle.pauli_judge.specs.declared.footprint.ProgramFootprint.{ProgramFootprint}

-- an operation writes classical bit i
abbrev pub writes : Operation → ℕ → Bool
writes o i = elem i (bits o)

-- N: one more than the highest node that an axis names, or the output frame, which names nodes 1 to 2n
abbrev pub named : ℕ → List Operation → ℕ
named n [] = cond (eqb n 0) 0 (1 + 2 * n)
named n (o ∷ os) = max (suc (axis o).node) (named n os)

-- N; P, the operations and 2n; measurements; distinct bits, of m, that are measured into; weight
abbrev pub program_footprint : ℕ → ℕ → List Operation → ProgramFootprint
program_footprint n m os = record {
  nodes = named n os;
  counts = record { gates = length os + 2 * n; splits = total splits os; written = marks m writes os; weight = total weight os };
}
