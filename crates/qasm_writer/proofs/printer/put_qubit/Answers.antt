-- `printer::put_qubit` meets its contract.
use mathlib.Core.Path.{sym, ap}
use mathlib.Core.Bool.{Bool}
use Rattle.text.proofs.Put.{text, none}
use Rattle.qasm_writer.specs.Inner.Print.{qubit_if}
use Rattle.qasm_writer.proofs.printer.put_qubit.Goals as goal

pub returns-else-used : goal.returns-else-used
returns-else-used c = text (ap (λ (u : Bool). qubit_if u c.args.n) (sym c.if-used.false)) (none _)
