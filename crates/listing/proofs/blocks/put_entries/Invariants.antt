-- `blocks::put_entries` meets its contract.
use Rattle.channel.specs.Layout.{channels, entry_at, dim_at}
use Rattle.text.specs.Inner.Puts.{Puts}
use Rattle.listing.specs.Listing.{entry_lines}
use Rattle.listing.proofs.blocks.put_entries.Given as goal

abbrev pub invariant-loop-k : goal.invariant-loop-k
invariant-loop-k l = Puts l.initial.out (entry_lines l.w l.k (entry_at (channels (dim_at l.s)) l.s l.place)) l.out
