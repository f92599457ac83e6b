-- `place_words` meets its contract.
use mathlib.Core.Path.{ap, sym}
use Rattle.c_channels.specs.Channels.{place_words}
use Rattle.c_channels.proofs.place_words.Goals as goal

pub returns-in-Some : goal.returns-in-Some
returns-in-Some c = ap place_words (sym c.in-Some.is)
