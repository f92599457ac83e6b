-- `blocks::put_store_line` meets its contract.
use Rattle.text.proofs.Put.{then}
use Rattle.listing.proofs.blocks.put_store_line.Goals as goal

pub returns : goal.returns
returns c =
    then c.put_all.ensures (then c.put_store.ensures c.put.ensures)
