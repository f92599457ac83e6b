-- `printer::put_head` meets its contract.
use Rattle.text.proofs.Put.{then}
use Rattle.qasm_writer.proofs.printer.put_head.Goals as goal

pub returns : goal.returns
returns c =
    then c.put_indexed.ensures (then c.put_indexed-2.ensures c.put_all.ensures)
