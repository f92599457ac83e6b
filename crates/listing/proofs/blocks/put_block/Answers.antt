-- `blocks::put_block` meets its contract.
use mathlib.Core.Path.{ap}
use Rattle.listing.specs.Listing.{store_line}
use Rattle.text.proofs.Put.{then, text}
use Rattle.listing.proofs.blocks.put_block.Goals as goal

pub returns : goal.returns
returns c =
    then (text (ap (store_line c.args.m) c.read_store.ensures) c.put_store_line.ensures) c.put_entries.ensures
