-- `words::put` meets its contract.
use mathlib.Core.Path.{ap, ◌∙◌}
use native.Mathlib.Omega.{arith}
use Rattle.c_channels.specs.Channels.{scalar_words}
use Rattle.compare_list.specs.Words.{answer_words, entry_words}
use Rattle.compare_list.proofs.Along.{answer_long, entry_long}
use Rattle.algebra.proofs.Copying.{copied_here}
use Rattle.compare_list.proofs.words.put.Goals as goal

pub returns-clause-answers_after : goal.returns-clause-answers_after
returns-clause-answers_after c =
    let a = c.args in
    copied_here a.answers.now _ (answer_words a.answer) _ _ (c.copy_from_slice.ensures.after ∙ c.answer_words.ensures) (omega (arith, answer_long a.answer)) (omega (arith, c.requires.0))

pub returns-clause-scalars_after : goal.returns-clause-scalars_after
returns-clause-scalars_after c =
    let a = c.args in
    copied_here a.scalars.now _ (entry_words a.answer) _ _ (c.copy_from_slice-2.ensures.after ∙ c.scalar_words.ensures ∙ ap scalar_words c.entry_of.ensures) (omega (arith, entry_long a.answer)) (omega (arith, c.requires.1))
