-- `blocks::put_entries` meets its contract.
use mathlib.Core.Path.{ap}
use Prim.Native.Nat.{◌/◌, ◌%◌}
use Rattle.scalar.specs.Calls.{value}
use Rattle.scalar.specs.declared.Scalar.{Scalar}
use Rattle.channel.specs.Layout.{channels, entry_at, dim_at}
use Rattle.listing.specs.Listing.{entry_line}
use Rattle.text.proofs.Put.{then, text, none}
use Rattle.listing.proofs.Listing.{entries_none, entries-more}
use Rattle.listing.proofs.blocks.put_entries.Goals as goal

pub loop-k-init : goal.loop-k-init
loop-k-init c = text (entries_none c.args.w (entry_at (channels (dim_at c.args.s.now)) c.args.s.now c.args.place)) (none _)

pub loop-k-preserved : goal.loop-k-preserved
loop-k-preserved c =
    let line = ap (λ (x : Scalar). entry_line (c.loop-k.k / c.args.w) (c.loop-k.k % c.args.w) (value x)) c.read_entry.ensures in
    text (entries-more c.args.w c.loop-k.k (entry_at (channels (dim_at c.args.s.now)) c.args.s.now c.args.place)) (then c.loop-k.invariant (text line c.put_entry.ensures))
