-- A call of circuit_channel: its verdict, and what it leaves in the two buffers.
use Rattle.std.specs.Prelude.{Bool, cond, List, ℕ, length, replicate, ℤ, pos, is_ok}
use Rattle.gate.specs.Gate.{gates_of}
use Rattle.circuit.specs.declared.limits.Limits.{Limits}
use Rattle.verdict.specs.Questions.{Verdict}
use Rattle.circuit.specs.Footprint.{footprint_of}
use Rattle.circuit.specs.Sizes.{work_words}
use Rattle.verdict.specs.Questions.{Question, first_no}
use Rattle.circuit.specs.Questions.{sizes_of, channel_questions}
use Rattle.collect.specs.Delivered.{overwritten}
use Rattle.judge.specs.Delivered.{circuit_words}

-- the words of the work buffer that question 10 asks for
abbrev pub worked : ℕ → ℕ → List ℕ → ℕ
worked n m ws = let s = sizes_of (footprint_of m (gates_of ws)) n in work_words s.branches s.rows

-- n qubits, m classical bits, the initial store σ, the limits l, the gates' words ws, the result r and the work buffer w
module _ (n m : ℕ) (σ : List ℕ) (l : Limits) (ws : List ℕ) (r w : List ℤ) where
  abbrev pub asked : List Question
  asked = channel_questions n m σ l ws (length r) (length w)

  abbrev pub verdict_of : Verdict
  verdict_of = first_no asked

  abbrev pub accepts : Bool
  accepts = is_ok verdict_of

  -- accepted: the words of the channel, then what the buffer held; refused: as it was
  abbrev pub result_after : List ℤ
  result_after = cond accepts (overwritten (circuit_words n m σ (gates_of ws)) r) r

  -- accepted: zeros in those words, then what the buffer held; refused: as it was
  abbrev pub work_after : List ℤ
  work_after = cond accepts (overwritten (replicate (worked n m ws) (pos 0)) w) w
