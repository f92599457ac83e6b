-- `compare` meets its contract.
use mathlib.Core.Path.{ap, ◌∙◌}
use Rattle.c_channels.specs.Channels.{finding_number, difference, place_words, scalar_words}
use Rattle.c_channels.proofs.compare.Goals as goal

pub returns : goal.returns
returns c =
    let a = c.compare-answer.ensures in
    let d = c.difference-entry.ensures ∙ ap difference a in
    record { value = c.finding_number.ensures ∙ ap finding_number a; place_after = c.place_words.ensures ∙ ap place_words d; scalars_after = c.scalar_words.ensures ∙ ap scalar_words d }
