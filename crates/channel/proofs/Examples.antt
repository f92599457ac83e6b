-- The examples hold, by computation.
use mathlib.Core.Path.{refl}
use Rattle.algebra.specs.Words.{joined}
use Rattle.store.specs.Store.{before}
use Rattle.channel.specs.Layout.{half_rows}
use Rattle.channel.specs.WellFormed.{well_formed_in, chain_ok}
use Rattle.channel.specs.Examples.{Examples}

pub examples : Examples
unfolding joined before half_rows well_formed_in chain_ok
examples = record { in_full = refl; in_half = refl; in_plain = refl; right = refl; packs = refl; unpacks = refl; odd = refl; even = refl; negative = refl; diagonal = refl }
