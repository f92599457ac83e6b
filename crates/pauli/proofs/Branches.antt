-- The branches of an accepted program: their numbers are small, their stores have m bits each, and their channel fits the result.
use mathlib.Core.Path.{subst}
use mathlib.Core.List.{List}
use Prim.Native.Nat.{ℕ, ◌^◌, ◌≤◌, min}
use lib.ListN.{length}
use lib.Seq.{take-length}
use Rattle.algebra.specs.Lists.{All, total, marks}
use Rattle.gate.proofs.Bits.{Word}
use Rattle.kraus.specs.Branch.{Branch}
use Rattle.kraus.specs.Blocks.{survivors, stores}
use Rattle.kraus.proofs.Counting.{Marked, marked-bits, marked-stores, marked-count}
use Rattle.kraus.proofs.Limits.{Enough, kraus_exponent}
use Rattle.judge.proofs.Accepted.{words-room}
use Rattle.pauli_nodes.specs.Operations.{Operation, splits}
use Rattle.pauli_words.specs.Words.{nodes_of, operations_of}
use Rattle.pauli_judge.specs.Footprint.{writes}
use Rattle.pauli_program.specs.Program.{program_branches}
use Rattle.pauli_program.proofs.Counting.{program_count, program_marked}
use Rattle.pauli_program.proofs.Whole.{program_enough}
use Rattle.pauli.specs.Delivered.{program_words}
use Rattle.pauli.specs.Known.{Known}

module _ {n m : ℕ} {σ ns os : List ℕ} {result work : ℕ} (k : Known n m σ ns os result work) where
  abbrev us : List Operation
  us = operations_of os

  abbrev bs : List Branch
  bs = program_branches n (nodes_of ns) σ us

  pub enough_all : Enough kraus_exponent n (program_branches n (nodes_of ns) σ (operations_of os))
  enough_all = subst (λ (os : List Operation). Enough kraus_exponent n (program_branches n (nodes_of ns) σ os)) (take-length us) (program_enough k.sound k.light σ (length us))

  marking : Marked writes us σ k.bytes bs
  marking = program_marked n (nodes_of ns) σ us k.bytes

  pub branch-words : All (λ (b : Branch). Word m b.store) (program_branches n (nodes_of ns) σ (operations_of os))
  branch-words = subst (λ (m : ℕ). All (λ (b : Branch). Word m b.store) bs) k.byte_count (marked-bits writes us σ k.bytes bs marking)

  pub store_words : All (Word m) (stores (survivors (program_branches n (nodes_of ns) σ (operations_of os))))
  store_words = subst (λ (m : ℕ). All (Word m) (stores (survivors bs))) k.byte_count (marked-stores writes us σ k.bytes bs marking)

  pub channel_room : length (program_words n m σ (nodes_of ns) (operations_of os)) ≤ result
  channel_room = words-room (2 ^ n) m (survivors bs) few k.room
    where
      few : length (stores (survivors bs)) ≤ 2 ^ min (total splits us) (marks m writes us)
      few = subst (λ (m : ℕ). length (stores (survivors bs)) ≤ 2 ^ min (total splits us) (marks m writes us)) k.byte_count
          (marked-count writes us σ k.bytes bs marking (total splits us) (program_count n (nodes_of ns) σ us))
