-- `answer` meets its contract.
use Rattle.std.proofs.Common.{◌≡◌, refl, ap, ◌∙◌, Ok, Err}
use Rattle.std.specs.Result.{result_unwrap_or}
use Rattle.exact.specs.Exact.{exact}
use Rattle.cells.specs.Cells.{cell_words}
use Rattle.scalar.specs.declared.Scalar.{Scalar}
use Rattle.scalar.specs.Calls.{Answer, value, scalar_of}
use Rattle.c_scalars.specs.Calls.{answer_words}
use Rattle.c_scalars.proofs.answer.Goals as goal

-- the words of an answer are those of its scalar, or of zero
words_are : (a : Answer) → cell_words (value (result_unwrap_or a (scalar_of exact.𝟘))) ≡ answer_words a
words_are (Ok s) = refl
words_are (Err r) = refl

pub returns : goal.returns
returns c = record {
  value = c.number.ensures;
  out_after = c.scalar_words.ensures ∙ ap (λ (s : Scalar). cell_words (value s)) c.unwrap_or.ensures ∙ words_are c.args.a;
}
