-- The words that circuit_channel delivers: the channel of a circuit, as words of the result.
use Rattle.std.specs.Prelude.{List, ℕ, ◌^◌, ℤ}
use Rattle.gate.specs.Gate.{Gate}
use Rattle.kraus.specs.Branch.{Store, branches}
use Rattle.kraus.specs.Blocks.{survivors}
use Rattle.collect.specs.Delivered.{branches_words}

-- the words of a circuit's channel: n qubits, m bits, the initial store σ
abbrev pub circuit_words : ℕ → ℕ → Store → List Gate → List ℤ
circuit_words n m σ gs = branches_words (2 ^ n) m (survivors (branches n σ gs))
