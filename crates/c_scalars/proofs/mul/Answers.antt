-- `mul` meets its contract.
use mathlib.Core.Path.{ap, ap₂, ◌∙◌}
use Rattle.scalar.specs.declared.Scalar.{Scalar}
use Rattle.scalar.specs.Calls.{value, mul_answer}
use Rattle.verdict.specs.Verdict.{verdict_number}
use Rattle.c_scalars.specs.Calls.{answer_words}
use Rattle.c_scalars.proofs.mul.Goals as goal

pub returns : goal.returns
returns c =
    let e = c.mul.ensures ∙ ap₂ (λ (s t : Scalar). mul_answer (value s) (value t)) c.read_operand.ensures c.read_operand-2.ensures in
    record {
      value = c.answer.ensures.value ∙ ap verdict_number e;
      out_after = c.answer.ensures.out_after ∙ ap answer_words e;
    }
