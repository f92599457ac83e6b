-- What the calls on texts reply and write: a number for the answer, and six numbers behind it.
use Rattle.std.specs.Prelude.{List, [], ◌∷◌, ◌++◌, ℕ, Option, None, Result, Ok, Err, ⊤}
use Rattle.verdict.specs.declared.Refusal.TheVariants.{ShortBuffer}
use Rattle.verdict.specs.Verdict.{refusal_number, refusal_index}
use Rattle.compare.specs.declared.Difference.{Difference}
use Rattle.answer_lines.specs.declared.Fault.{Fault}
use Rattle.judge_texts.specs.declared.Answer.{Answer}
use Rattle.judge_texts.specs.declared.Answer.TheVariants.{NoRoom, Left, Right, Compared}
use Rattle.c_scalars.specs.Replies.{left_refused, right_refused}
use Rattle.c_channels.specs.Channels.{finding_number, difference, place_words}

-- ---- two texts
-- 8 where there is no room for an answer
abbrev pub answer_number : Answer → ℕ
answer_number NoRoom = refusal_number ShortBuffer
answer_number (Left f) = left_refused
answer_number (Right f) = right_refused
answer_number (Compared c) = finding_number c

-- the entry that differs, if one does
abbrev pub entry_of : Answer → Option Difference
entry_of NoRoom = None
entry_of (Left f) = None
entry_of (Right f) = None
entry_of (Compared c) = difference c

abbrev pub zeros : List ℕ
zeros = 0 ∷ 0 ∷ 0 ∷ []

abbrev pub fault_numbers : Fault → List ℕ
fault_numbers f = refusal_number f.refusal ∷ refusal_index f.refusal ∷ f.position ∷ f.line ∷ f.column ∷ f.gates ∷ []

abbrev pub answer_numbers : Answer → List ℕ
answer_numbers NoRoom = zeros ++ zeros
answer_numbers (Left f) = fault_numbers f
answer_numbers (Right f) = fault_numbers f
answer_numbers (Compared c) = place_words (difference c) ++ zeros

-- ---- one text
abbrev pub reply_number : Result ⊤ Fault → ℕ
reply_number (Ok x) = 0
reply_number (Err f) = refusal_number f.refusal

abbrev pub reply_numbers : Result ⊤ Fault → List ℕ
reply_numbers (Ok x) = zeros ++ zeros
reply_numbers (Err f) = fault_numbers f
