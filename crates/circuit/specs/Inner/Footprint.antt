-- What one more gate in front adds to the bits that are measured into.
use Rattle.std.specs.Prelude.{cond, not, ◌&&◌, ◌-◌, ◌/◌, List, ℕ, eqb, ltb, length}
use Rattle.algebra.specs.Lists.{some}
use Rattle.gate.specs.Gate.{Gate, gate_size, measure, gates_from}
use Rattle.circuit.specs.Footprint.{writes}

-- gate i of a list of words, and those after it
abbrev pub gates_behind : List ℕ → ℕ → List Gate
gates_behind ws i = gates_from ws i (length ws / gate_size - i)

-- 1 if the gate measures into one of the m bits and none of gs does
abbrev pub newly : ℕ → Gate → List Gate → ℕ
newly m g gs = cond (eqb g.kind measure && (ltb g.b m && not (some (λ (h : Gate). writes h g.b) gs))) 1 0
