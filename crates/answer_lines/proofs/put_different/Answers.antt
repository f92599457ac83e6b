-- `put_different` meets its contract.
use Rattle.text.proofs.Put.{then}
use Rattle.answer_lines.proofs.put_different.Goals as goal

pub returns : goal.returns
returns c =
    then (then (then (then (then c.put_all.ensures c.put_after.ensures) c.put_bra_ket.ensures) c.put_valued.ensures) c.put_valued-2.ensures) c.put.ensures
