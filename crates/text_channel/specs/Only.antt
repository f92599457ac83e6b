-- A call of text_channel: the channel of the circuit in a text, or why there is none.
use Rattle.std.specs.Prelude.{cond, List, [], leb, length, ℕ, ℤ, Result, Ok, Err, ⊤}
use Rattle.std.specs.Result.{result_map_both}
use Rattle.verdict.specs.declared.Refusal.TheVariants.{ShortBuffer}
use Rattle.circuit.specs.declared.limits.Limits.{Limits}
use Rattle.qasm.specs.declared.reader.Reading.{Reading}
use Rattle.qasm.specs.Reading.{read_of, filled}
use Rattle.answer_lines.specs.declared.Fault.{Fault}
use Rattle.answer_lines.specs.declared.Which.TheVariants.{Only}
use Rattle.answer_lines.specs.Lines.{max_answer}
use Rattle.text_sides.specs.declared.NoChannel.{NoChannel}
use Rattle.text_sides.specs.Sides.{side_by, result_by, work_by}
use Rattle.text_channel.specs.Refusals.{fault, no_place, fault_of, refusal_text}
use Rattle.text_channel.specs.declared.Refused.{Refused}

-- how many bytes say why there is no channel
abbrev pub bytes_of : Result ⊤ Refused → ℕ
bytes_of (Ok x) = 0
bytes_of (Err r) = r.bytes

-- the text t, the bits given σ, the limits l; the words lent for gates g, for the channel r and for the work w, and the room o for the answer
module _ (t σ : List ℕ) (l : Limits) (g : List ℕ) (r w : List ℤ) (o : List ℕ) where
  abbrev pub only : Result Reading NoChannel
  only = side_by σ l g r w (read_of t)

  abbrev pub with_room : {A : Type 0} → A → A → A
  with_room some none = cond (leb max_answer (length o)) some none

  -- why there is no channel, if there is none; 8 where there is no room for an answer
  abbrev pub only_reply : Result ⊤ Fault
  only_reply = with_room (result_map_both (λ _. tt) (fault_of t) only) (Err (fault ShortBuffer 0 no_place 0))

  abbrev pub only_gates : List ℕ
  only_gates = with_room (filled g (read_of t)) g

  -- nothing is said of what is accepted
  abbrev pub said : List ℕ → Result Reading NoChannel → List ℕ
  said gates (Ok x) = []
  said gates (Err why) = refusal_text Only t gates why

  abbrev pub only_text : List ℕ
  only_text = with_room (said only_gates only) []

  abbrev pub only_result : List ℤ
  only_result = with_room (result_by σ l g r w (read_of t)) r

  abbrev pub only_work : List ℤ
  only_work = with_room (work_by σ l g r w (read_of t)) w
