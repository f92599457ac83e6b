-- What a gate list asks for: the numbers that the questions read.
use Rattle.std.specs.Prelude.{Bool, List, ℕ, length}
use Rattle.algebra.specs.Lists.{total, marks}
use Rattle.gate.specs.Gate.{Gate, elem, bits, splits, weight}
use Rattle.circuit.specs.declared.footprint.Footprint.{Footprint}

-- a gate writes classical bit i
abbrev pub writes : Gate → ℕ → Bool
writes g i = elem i (bits g)

-- gates; measures and resets; distinct bits, of m, that are measured into; weight
abbrev pub footprint_of : ℕ → List Gate → Footprint
footprint_of m gs = record { gates = length gs; splits = total splits gs; written = marks m writes gs; weight = total weight gs }
