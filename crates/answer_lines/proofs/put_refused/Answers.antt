-- `put_refused` meets its contract.
use Rattle.text.proofs.Put.{then}
use Rattle.answer_lines.proofs.put_refused.Goals as goal

pub returns : goal.returns
returns c =
    then (then (then (then c.put_first.ensures c.put_place.ensures) c.put_room.ensures) c.put_reason.ensures) c.put.ensures
