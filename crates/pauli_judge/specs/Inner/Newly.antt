-- What one more operation in front adds to the bits that are measured into.
use Rattle.std.specs.Prelude.{cond, not, ◌&&◌, List, [], ◌∷◌, ℕ, ltb}
use Rattle.algebra.specs.Lists.{some}
use Rattle.gate.specs.Gate.{Gate}
use Rattle.pauli_nodes.specs.Operations.{Operation, rotate, rotate_if, measure}
use Rattle.pauli_words.specs.Words.{operation_of}
use Rattle.pauli_judge.specs.Footprint.{writes}

-- 1 if the operation measures into one of the m bits and none of gs does
abbrev pub newly : ℕ → Operation → List Gate → ℕ
newly m (rotate a k) gs = 0
newly m (rotate_if a k o) gs = 0
newly m (measure a []) gs = 0
newly m (measure a (b ∷ bs)) gs = cond (ltb b m && not (some (λ (g : Gate). writes (operation_of g) b) gs)) 1 0
