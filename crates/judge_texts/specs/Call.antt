-- A call of judge_texts: its answer, the bytes of that answer, and what it leaves in the lent buffers.
use Rattle.std.specs.Prelude.{cond, List, [], ℕ, leb, length, ℤ, Result, Ok, Err}
use Rattle.verdict.specs.declared.Refusal.{Refusal}
use Rattle.circuit.specs.declared.limits.Limits.{Limits}
use Rattle.compare.specs.declared.Comparison.{Comparison}
use Rattle.compare.specs.declared.Comparison.TheVariants.{Same, Dimensions, Differs}
use Rattle.compare.specs.Compare.{compare_of}
use Rattle.qasm.specs.declared.reader.Reading.{Reading}
use Rattle.qasm.specs.Reading.{read_of, filled}
use Rattle.answer_lines.specs.declared.Which as which
use Rattle.answer_lines.specs.Lines.{max_answer, same_text, dimensions_text, different_text}
use Rattle.text_sides.specs.declared.NoChannel.{NoChannel}
use Rattle.text_sides.specs.Sides.{side_by, result_by, work_by}
use Rattle.text_channel.specs.Refusals.{fault_of, refusal_text}
use Rattle.judge_texts.specs.declared.Answer.{Answer}
use Rattle.judge_texts.specs.declared.Answer.TheVariants.{NoRoom, Left, Right, Compared}

-- ---- answers
-- the bytes of what the comparison of the channels of two circuits found. Channels that were just delivered are never refused
abbrev pub compared_text : Reading → Reading → Result Comparison Refusal → List ℕ
compared_text a b (Ok Same) = same_text
compared_text a b (Ok Dimensions) = dimensions_text a.qubits a.bits b.qubits b.bits
compared_text a b (Ok (Differs d)) = different_text a.qubits a.bits d.place d.left d.right
compared_text a b (Err r) = []

-- what follows a text's circuit, or why it has no channel
abbrev pub either : {A B : Type 0} → (NoChannel → B) → (A → B) → Result A NoChannel → B
either on_refusal on_circuit (Ok x) = on_circuit x
either on_refusal on_circuit (Err why) = on_refusal why

-- the left text t, the right text u, the bits given σ, the limits l; the words lent for gates g, for both channels r and s and for the work w, and the room o for the answer
module _ (t u σ : List ℕ) (l : Limits) (g : List ℕ) (r s w : List ℤ) (o : List ℕ) where
  -- ---- both sides, one after the other
  abbrev pub left : Result Reading NoChannel
  left = side_by σ l g r w (read_of t)

  abbrev pub left_gates : List ℕ
  left_gates = filled g (read_of t)

  abbrev pub left_channel : List ℤ
  left_channel = result_by σ l g r w (read_of t)

  abbrev pub left_work : List ℤ
  left_work = work_by σ l g r w (read_of t)

  abbrev pub right : Result Reading NoChannel
  right = side_by σ l left_gates s left_work (read_of u)

  abbrev pub right_gates : List ℕ
  right_gates = filled left_gates (read_of u)

  abbrev pub right_channel : List ℤ
  right_channel = result_by σ l left_gates s left_work (read_of u)

  abbrev pub right_work : List ℤ
  right_work = work_by σ l left_gates s left_work (read_of u)

  -- ---- the first of these that holds: there is no room for an answer, the left side is refused, the right side is refused; else both are compared
  abbrev pub first : {A : Type 0} → A → (NoChannel → A) → (NoChannel → A) → (Reading → Reading → A) → A
  first no_room on_left on_right both =
      cond (leb max_answer (length o)) (either on_left (λ a. either on_right (both a) right) left) no_room

  abbrev pub comparison : Result Comparison Refusal
  comparison = compare_of left_channel right_channel

  abbrev pub answer_of : Answer
  answer_of = first NoRoom (λ why. Left (fault_of t why)) (λ why. Right (fault_of u why)) (λ a b. Compared comparison)

  abbrev pub text_of : List ℕ
  text_of = first [] (refusal_text which.TheVariants.Left t left_gates) (refusal_text which.TheVariants.Right u right_gates) (λ a b. compared_text a b comparison)

  -- ---- the lent buffers afterwards; the right side is not read where the left one is refused
  abbrev pub gates_after : List ℕ
  gates_after = first g (λ _. left_gates) (λ _. right_gates) (λ _ _. right_gates)

  abbrev pub first_after : List ℤ
  first_after = first r (λ _. left_channel) (λ _. left_channel) (λ _ _. left_channel)

  abbrev pub second_after : List ℤ
  second_after = first s (λ _. s) (λ _. right_channel) (λ _ _. right_channel)

  abbrev pub work_after_both : List ℤ
  work_after_both = first w (λ _. left_work) (λ _. right_work) (λ _ _. right_work)
