-- `lines::write_listing` meets its contract.
use mathlib.Core.Path.{sym, ◌∙◌}
use Rattle.text.specs.Page.{page}
use Rattle.text.proofs.Put.{nothing}
use Rattle.listing.proofs.Listing.{unlisted}
use Rattle.listing.proofs.lines.write_listing.Goals as goal

pub returns-then-not-well_formed : goal.returns-then-not-well_formed
returns-then-not-well_formed c =
    nothing (page c.args.out.now 0) (unlisted c.args.channel.now (sym c.well_formed-2.ensures ∙ c.if-not-well_formed.true))
