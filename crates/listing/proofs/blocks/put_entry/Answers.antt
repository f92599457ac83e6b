-- `blocks::put_entry` meets its contract.
use mathlib.Core.Path.{sym}
use Rattle.scalar.specs.Calls.{value}
use Rattle.text.proofs.Put.{then, text, none}
use Rattle.listing.proofs.Listing.{entry_zero, entry-shown}
use Rattle.listing.proofs.blocks.put_entry.Goals as goal

pub returns-else-not-is_zero : goal.returns-else-not-is_zero
returns-else-not-is_zero c =
    text (entry_zero c.args.row c.args.column (value c.args.x) (sym c.if-not-is_zero.ensures)) (none _)

pub returns-then-not-is_zero : goal.returns-then-not-is_zero
returns-then-not-is_zero c =
    text (entry-shown c.args.row c.args.column (value c.args.x) (sym c.if-not-is_zero.ensures))
    (then (then c.put_decimal.ensures (then c.put_natural.ensures c.put_scalar.ensures)) c.put.ensures)
