-- `inv_sqrt_two` meets its contract.
use mathlib.Core.Path.{ap, ◌∙◌}
use Rattle.cells.specs.Cells.{cell_words}
use Rattle.scalar.specs.declared.Scalar.{Scalar}
use Rattle.scalar.specs.Calls.{value}
use Rattle.c_scalars.proofs.inv_sqrt_two.Goals as goal

pub returns : goal.returns
returns c = record {
  value = c.answer.ensures.value;
  out_after = c.answer.ensures.out_after ∙ ap (λ (s : Scalar). cell_words (value s)) c.inv_sqrt_two.ensures;
}
