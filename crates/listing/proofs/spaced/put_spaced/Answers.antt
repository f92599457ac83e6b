-- `spaced::put_spaced` meets its contract.
use mathlib.Core.Path.{ap}
use mir.Facts.{to_z-of_z}
use Rattle.listing.specs.Listing.{spaced}
use Rattle.text.proofs.Put.{then, text}
use Rattle.listing.proofs.spaced.put_spaced.Goals as goal

pub returns : goal.returns
returns c =
    text (ap spaced (to_z-of_z c.ranges.z)) (then c.put.ensures c.put_signed.ensures)
