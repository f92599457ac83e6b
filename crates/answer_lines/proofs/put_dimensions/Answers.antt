-- `put_dimensions` meets its contract.
use Rattle.text.proofs.Put.{then}
use Rattle.answer_lines.proofs.put_dimensions.Goals as goal

pub returns : goal.returns
returns c =
    then (then (then (then c.put_labelled.ensures c.put_labelled-2.ensures) c.put_labelled-3.ensures) c.put_labelled-4.ensures) c.put.ensures
