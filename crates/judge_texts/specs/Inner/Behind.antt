-- The right text, behind a left one whose circuit is accepted.
use Rattle.std.specs.Prelude.{List, ℕ, ℤ, Result}
use Rattle.verdict.specs.declared.Refusal.{Refusal}
use Rattle.circuit.specs.declared.limits.Limits.{Limits}
use Rattle.compare.specs.declared.Comparison.{Comparison}
use Rattle.compare.specs.Compare.{compare_of}
use Rattle.qasm.specs.declared.reader.Reading.{Reading}
use Rattle.qasm.specs.Reading.{read_of, filled}
use Rattle.answer_lines.specs.declared.Which as which
use Rattle.text_sides.specs.declared.NoChannel.{NoChannel}
use Rattle.text_sides.specs.Sides.{side_by, result_by}
use Rattle.text_channel.specs.Refusals.{fault_of, refusal_text}
use Rattle.judge_texts.specs.declared.Answer.{Answer}
use Rattle.judge_texts.specs.declared.Answer.TheVariants.{Right, Compared}
use Rattle.judge_texts.specs.Call.{compared_text, either}

-- the left circuit a and its channel x, the right text u, the bits given σ, the limits l; the words lent for gates g, for the channel s and for the work w
module _ (a : Reading) (x : List ℤ) (u σ : List ℕ) (l : Limits) (g : List ℕ) (s w : List ℤ) where
  abbrev pub side : Result Reading NoChannel
  side = side_by σ l g s w (read_of u)

  abbrev pub comparison : Result Comparison Refusal
  comparison = compare_of x (result_by σ l g s w (read_of u))

  abbrev pub judged_behind : Answer
  judged_behind = either (λ why. Right (fault_of u why)) (λ b. Compared comparison) side

  abbrev pub text_behind : List ℕ
  text_behind = either (refusal_text which.TheVariants.Right u (filled g (read_of u))) (λ b. compared_text a b comparison) side
