-- A call of pauli_channel: its verdict, and what it leaves in the two buffers.
use Rattle.std.specs.Prelude.{Bool, cond, List, ℕ, length, replicate, ℤ, pos, is_ok}
use Rattle.verdict.specs.Questions.{Verdict}
use Rattle.verdict.specs.Questions.{Question}
use Rattle.circuit.specs.declared.limits.Limits.{Limits}
use Rattle.circuit.specs.Questions.{sizes_of}
use Rattle.collect.specs.Delivered.{overwritten}
use Rattle.pauli_words.specs.Words.{nodes_of, operations_of}
use Rattle.pauli_judge.specs.Footprint.{program_footprint}
use Rattle.pauli_judge.specs.Sizes.{program_work}
use Rattle.pauli_judge.specs.Questions.{pauli_questions, pauli_verdict}
use Rattle.pauli.specs.Delivered.{program_words}

-- the words of the work buffer that question 10 asks for
abbrev pub worked : ℕ → ℕ → List ℕ → ℕ
worked n m os = let f = program_footprint n m (operations_of os) in let s = sizes_of f.counts n in program_work f.nodes s.branches s.rows

-- n qubits, m classical bits, the initial store σ, the limits l, the words of the listed nodes and of the operations, the result r and the work buffer w
module _ (n m : ℕ) (σ : List ℕ) (l : Limits) (ns os : List ℕ) (r w : List ℤ) where
  abbrev pub asked : List Question
  asked = pauli_questions n m σ l ns os (length r) (length w)

  abbrev pub verdict_of : Verdict
  verdict_of = pauli_verdict n m σ l ns os (length r) (length w)

  abbrev pub accepts : Bool
  accepts = is_ok verdict_of

  -- accepted: the words of the channel, then what the buffer held; refused: as it was
  abbrev pub result_after : List ℤ
  result_after = cond accepts (overwritten (program_words n m σ (nodes_of ns) (operations_of os)) r) r

  -- accepted: zeros in those words, then what the buffer held; refused: as it was
  abbrev pub work_after : List ℤ
  work_after = cond accepts (overwritten (replicate (worked n m os) (pos 0)) w) w
