-- `half` meets its contract.
use mathlib.Core.Path.{ap, ◌∙◌}
use Rattle.scalar.specs.declared.Scalar.{Scalar}
use Rattle.scalar.specs.Calls.{value, half_answer}
use Rattle.verdict.specs.Verdict.{verdict_number}
use Rattle.c_scalars.specs.Calls.{answer_words}
use Rattle.c_scalars.proofs.half.Goals as goal

pub returns : goal.returns
returns c =
    let e = c.half.ensures ∙ ap (λ (s : Scalar). half_answer (value s)) c.read_operand.ensures in
    record {
      value = c.answer.ensures.value ∙ ap verdict_number e;
      out_after = c.answer.ensures.out_after ∙ ap answer_words e;
    }
