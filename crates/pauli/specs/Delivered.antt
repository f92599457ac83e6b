-- The words of a program's channel.
use Rattle.std.specs.Prelude.{List, ℕ, ◌^◌, ℤ}
use Rattle.kraus.specs.Branch.{Store}
use Rattle.kraus.specs.Blocks.{survivors}
use Rattle.collect.specs.Delivered.{branches_words}
use Rattle.pauli_nodes.specs.Nodes.{Node}
use Rattle.pauli_nodes.specs.Operations.{Operation}
use Rattle.pauli_program.specs.Program.{program_branches}

-- n qubits, m bits, the initial store σ
abbrev pub program_words : ℕ → ℕ → Store → List Node → List Operation → List ℤ
program_words n m σ nodes os = branches_words (2 ^ n) m (survivors (program_branches n nodes σ os))
