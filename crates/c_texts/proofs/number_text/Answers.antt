-- `number_text` meets its contract.
use borrow.Author.Rules.{rules}
use mathlib.Core.Path.{ap, ◌∙◌}
use Rattle.scalar.specs.declared.Scalar.{Scalar}
use Rattle.scalar.specs.Calls.{value}
use Rattle.answers.specs.Numbers.{number_text}
use Rattle.text.proofs.Put.{text, lent}
use Rattle.c_texts.proofs.number_text.Goals as goal

pub returns : goal.returns
returns c =
    let same = c.put_number.ensures.same ∙ c.new-w.ensures.same in
    let e = ap (λ (s : Scalar). number_text (value s)) c.read_operand.ensures in
    lent c.new-w.ensures.room c.new-w.ensures.at (text e c.put_number.ensures) (search rules)
