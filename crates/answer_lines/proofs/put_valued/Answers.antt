-- `put_valued` meets its contract.
use Rattle.text.proofs.Put.{then}
use Rattle.answer_lines.proofs.put_valued.Goals as goal

pub returns : goal.returns
returns c = then c.put_all.ensures c.put_number.ensures
