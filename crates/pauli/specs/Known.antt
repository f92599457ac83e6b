-- What acceptance says of a program.
use Rattle.std.specs.Prelude.{◌≡◌, true, List, ℕ, ◌^◌, ◌≤◌, ◌<◌, min, length, ℤ}
use Rattle.algebra.specs.Lists.{All, total, marks}
use Rattle.gate.specs.Gate.{max_weight}
use Rattle.circuit.specs.declared.limits.Limits.{Limits}
use Rattle.circuit.specs.Limits.{ceilings}
use Rattle.circuit.specs.Sizes.{result_words}
use Rattle.pauli_nodes.specs.Operations.{splits, weight}
use Rattle.pauli_words.specs.Words.{nodes_of, operations_of}
use Rattle.pauli_judge.specs.Footprint.{writes}
use Rattle.pauli_program.specs.Claims.{Sound}
use Rattle.pauli.specs.Call.{worked, accepts}

pub record Known (n m : ℕ) (σ ns os : List ℕ) (result work : ℕ) : Type 0 where
  -- the program is one that the theory of programs speaks of
  pub sound : Sound n (nodes_of ns) (operations_of os)
  pub qubit_count : n ≤ 4
  pub bit_count_lem : m ≤ ceilings.max_classical_bits
  pub bytes : All (λ (v : ℕ). v < 2) σ
  pub byte_count : length σ ≡ m
  pub light : total weight (operations_of os) ≤ max_weight
  pub branch_count : 2 ^ total splits (operations_of os) ≤ ceilings.max_branches
  pub room : result_words (2 ^ min (total splits (operations_of os)) (marks m writes (operations_of os))) (2 ^ n) ≤ result
  pub work_room : worked n m os ≤ work

abbrev pub AcceptedKnown : Type 0
AcceptedKnown = (n m : ℕ) (σ : List ℕ) (l : Limits) (ns os : List ℕ) (r w : List ℤ) → accepts n m σ l ns os r w ≡ true → Known n m σ ns os (length r) (length w)
