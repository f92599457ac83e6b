-- `answer_number` meets its contract.
use mathlib.Core.Path.{ap, sym, ◌∙◌}
use Rattle.c_texts.specs.Answers.{answer_number}
use Rattle.c_texts.proofs.answer_number.Goals as goal

pub returns-in-NoRoom : goal.returns-in-NoRoom
returns-in-NoRoom c = c.number.ensures ∙ ap answer_number (sym c.in-NoRoom.is)

pub returns-in-Compared : goal.returns-in-Compared
returns-in-Compared c = c.finding_number.ensures ∙ ap answer_number (sym c.in-Compared.is)
