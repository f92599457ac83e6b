-- Cases of Pauli programs: what a case gives to judge_pauli or to pauli_channel, and what the call answers and leaves held against what the case records.
use Rattle.std.specs.Prelude.{List, ℕ, take, replicate, ℤ, pos}
use Rattle.circuit.specs.Limits.{ceilings}
use Rattle.pauli_judge.specs.Questions.{pauli_verdict}
use Rattle.pauli.specs.Call.{verdict_of, result_after, work_after}
use Rattle.replay.specs.declared.record.Record.{Record}
use Rattle.replay.specs.Numerals.{word_no, low_byte, low_word}
use Rattle.replay.specs.Record.{begun}
use Rattle.replay.specs.Answers.{with_verdict, with_call}
use Rattle.replay.specs.Words.{marked, numbers_at}
use Rattle.replay_cases.specs.declared.kinds.PauliCall.{PauliCall}
use Rattle.replay_cases.specs.declared.kinds.PauliCall.TheVariants.{Judged, Run}

-- ---- of n qubits, m bits, the store σ, the words of the nodes and of the operations, and what is recorded from `at` on
module _ (t : List ℕ) (at n m : ℕ) (σ ns os : List ℕ) where
  -- judge_pauli, for a result and work of these lengths
  abbrev pub judged : ℕ → ℕ → Record
  judged after spent = with_verdict t (begun at) (pauli_verdict n m σ ceilings ns os after spent)

  -- pauli_channel on marked buffers
  abbrev pub called : List ℤ → List ℤ → Record
  called r w =
      with_call t (begun at) (verdict_of n m σ ceilings ns os (marked r) (marked w)) (result_after n m σ ceilings ns os (marked r) (marked w)) (work_after n m σ ceilings ns os (marked r) (marked w))

  -- with these lengths of the buffers
  abbrev pub lent : ℕ → ℕ → List ℤ → List ℤ → Record
  lent after spent r w = called (take after r) (take spent w)

  -- the buffers hold zeros before they are marked
  abbrev pub run : ℕ → ℕ → Record
  run after spent = lent after spent (replicate 263000 (pos 0)) (replicate 20000 (pos 0))

  abbrev pub asked : PauliCall → ℕ → ℕ → Record
  asked Judged after spent = judged after spent
  asked Run after spent = run after spent

-- both counts, the lengths of result and work, the store, the nodes and the operations
unfoldable pub program_case : PauliCall → List ℕ → ℕ → Record
program_case call t at =
    let store = numbers_at low_byte t (word_no t at 3).next 65 in
    let nodes = numbers_at low_word t store.next 5200 in
    let operations = numbers_at low_word t nodes.next 5200 in
    asked t operations.next (low_word (word_no t at 0).size) (low_word (word_no t at 1).size) store.words nodes.words operations.words call (word_no t at 2).size (word_no t at 3).size
