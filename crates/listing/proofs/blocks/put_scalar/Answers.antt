-- `blocks::put_scalar` meets its contract.
use native.Mathlib.Omega.{arith}
use lib.ListN.{get_or}
use lib.IntN.{pos}
use Rattle.text.proofs.Put.{then, none}
use Rattle.listing.proofs.Listing.{spaced-word}
use Rattle.listing.proofs.blocks.put_scalar.Goals as goal

pub returns : goal.returns
returns c =
    let n = c.args.x.n in
    then (spaced-word (get_or n 0 (pos 0)) (omega arith) c.put_spaced.ensures)
    (then (spaced-word (get_or n 1 (pos 0)) (omega arith) c.put_spaced-2.ensures)
    (then (spaced-word (get_or n 2 (pos 0)) (omega arith) c.put_spaced-3.ensures)
    (then (spaced-word (get_or n 3 (pos 0)) (omega arith) c.put_spaced-4.ensures) (then c.put_natural.ensures (none _)))))
