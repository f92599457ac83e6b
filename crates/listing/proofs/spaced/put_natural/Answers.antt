-- `spaced::put_natural` meets its contract.
use Rattle.text.proofs.Put.{then}
use Rattle.listing.proofs.spaced.put_natural.Goals as goal

pub returns : goal.returns
returns c = then c.put.ensures c.put_decimal.ensures
