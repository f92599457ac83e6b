-- `integer` meets its contract.
use mathlib.Core.Path.{ap, ◌∙◌}
use mir.Facts.{to_z-of_z}
use Rattle.scalar.specs.Calls.{integer_answer}
use Rattle.verdict.specs.Verdict.{verdict_number}
use Rattle.c_scalars.specs.Calls.{answer_words}
use Rattle.c_scalars.proofs.integer.Goals as goal

pub returns : goal.returns
returns c =
    let e = c.integer.ensures ∙ ap integer_answer (to_z-of_z c.ranges.n) in
    record {
      value = c.answer.ensures.value ∙ ap verdict_number e;
      out_after = c.answer.ensures.out_after ∙ ap answer_words e;
    }
