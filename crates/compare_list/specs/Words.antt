-- The words of an answer to a pair.
use Rattle.std.specs.Prelude.{List, [], ◌∷◌, ◌++◌, ℕ, ℤ, Option, Some, None}
use Rattle.std.specs.Result.{result_err}
use Rattle.verdict.specs.declared.Refusal.{Refusal}
use Rattle.verdict.specs.Verdict.{refusal_number, refusal_index}
use Rattle.compare.specs.declared.Difference.{Difference}
use Rattle.c_scalars.specs.Replies.{left_refused, right_refused}
use Rattle.c_channels.specs.Channels.{finding_number, difference, place_words, scalar_words}
use Rattle.work_list.specs.declared.Answer.{Answer}
use Rattle.work_list.specs.declared.Answer.TheVariants.{LeftRefused, RightRefused, PassedOver, Compared}

-- ---- the reply
abbrev pub passed_over : ℕ
passed_over = 107

abbrev pub reply_number : Answer → ℕ
reply_number (LeftRefused r) = left_refused
reply_number (RightRefused r) = right_refused
reply_number (PassedOver n) = passed_over
reply_number (Compared n c) = finding_number c

-- ---- behind it: the cost, 0 where a circuit is refused; the entry that differs; and the refusal
abbrev pub cost_of : Answer → ℕ
cost_of (LeftRefused r) = 0
cost_of (RightRefused r) = 0
cost_of (PassedOver n) = n
cost_of (Compared n c) = n

abbrev pub entry_of : Answer → Option Difference
entry_of (LeftRefused r) = None
entry_of (RightRefused r) = None
entry_of (PassedOver n) = None
entry_of (Compared n c) = difference c

abbrev pub refusal_of : Answer → Option Refusal
refusal_of (LeftRefused r) = Some r
refusal_of (RightRefused r) = Some r
refusal_of (PassedOver n) = None
refusal_of (Compared n c) = result_err c

-- its number and index; zeros where there is none
abbrev pub refusal_words : Option Refusal → List ℕ
refusal_words (Some r) = refusal_number r ∷ refusal_index r ∷ []
refusal_words None = 0 ∷ 0 ∷ []

-- ---- the words of an answer, and those of its scalars
abbrev pub answer_size : ℕ
answer_size = 7

abbrev pub scalars_size : ℕ
scalars_size = 10

-- the place of the entry that differs is its store, row and column, and zeros where none does
abbrev pub answer_words : Answer → List ℕ
answer_words a = reply_number a ∷ cost_of a ∷ (place_words (entry_of a) ++ refusal_words (refusal_of a))

abbrev pub entry_words : Answer → List ℤ
entry_words a = scalar_words (entry_of a)
