-- The blocks that are left are along the chain from `place` on.
use Prim.Native.Nat.{◌-◌}
use Rattle.algebra.specs.Lists.{concat_map}
use Rattle.channel.specs.Layout.{channels, side, dim_at, chain, read_back}
use Rattle.channel.specs.Inner.Shapes.{Onward}
use Rattle.listing.specs.Listing.{block_lines}
use Rattle.text.proofs.Put.{Left}
use Rattle.listing.proofs.blocks.put_blocks.Given as goal

abbrev pub invariant-loop : goal.invariant-loop
invariant-loop l = record {
  walk : Onward l.s (l.shape.count - l.counter) l.place;
  rest : Left l.initial.out (concat_map (block_lines l.shape.bits (side l.shape.dim)) (read_back l.s)) l.out (concat_map (block_lines l.shape.bits (side l.shape.dim)) (chain (channels (dim_at l.s)) l.s (l.shape.count - l.counter) l.place));
}
