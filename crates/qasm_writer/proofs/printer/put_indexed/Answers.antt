-- `printer::put_indexed` meets its contract.
use Rattle.text.proofs.Put.{then}
use Rattle.qasm_writer.proofs.printer.put_indexed.Goals as goal

pub returns : goal.returns
returns c =
    then c.put_all.ensures (then c.put_decimal.ensures c.put.ensures)
