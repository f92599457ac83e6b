-- `blocks::put_channel` meets its contract.
use mathlib.Core.List.{◌++◌}
use Rattle.algebra.specs.Lists.{concat_map}
use Rattle.channel.specs.Layout.{side, read_back}
use Rattle.text.proofs.Put.{then, text}
use Rattle.listing.specs.Listing.{first_line, block_lines}
use Rattle.listing.proofs.blocks.put_channel.Goals as goal

pub returns : goal.returns
returns c =
    let e = c.read_shape-shape.ensures in
    text (λ i. first_line (e i).dim (e i).bits (e i).count ++ concat_map (block_lines (e i).bits (side (e i).dim)) (read_back c.args.s.now)) (then c.put_first.ensures c.put_blocks.ensures)
