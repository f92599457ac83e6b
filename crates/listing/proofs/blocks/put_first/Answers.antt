-- `blocks::put_first` meets its contract.
use Rattle.text.proofs.Put.{then}
use Rattle.listing.proofs.blocks.put_first.Goals as goal

pub returns : goal.returns
returns c =
    then (then (then (then (then (then c.put_all.ensures c.put_natural.ensures) c.put_all-2.ensures) c.put_natural-2.ensures) c.put_all-3.ensures) c.put_natural-3.ensures) c.put.ensures
