-- `listings::listing_case` meets its contract. The page has the length that it is made with.
use Rattle.std.proofs.Common.{ℕ, sym}
use Rattle.std.proofs.lemmas.List.{length-replicate}
use Rattle.replay_cases.specs.Circuits.{listing_case}
use Rattle.replay_cases.proofs.listings.listing_case.Goals as goal

pub returns : goal.returns
unfolding listing_case
returns c = c.listed.ensures

pub slice_bounds-listed-end-3 : goal.slice_bounds-listed-end-3
slice_bounds-listed-end-3 c = sym (length-replicate {A = ℕ} 202727 0)
