-- `scalar_words` meets its contract.
use mathlib.Core.Path.{ap, sym, ◌∙◌}
use Rattle.c_channels.specs.Channels.{scalar_words}
use Rattle.c_channels.proofs.scalar_words.Goals as goal

pub returns-in-Some : goal.returns-in-Some
returns-in-Some c = c.two_scalars.ensures ∙ ap scalar_words (sym c.in-Some.is)
