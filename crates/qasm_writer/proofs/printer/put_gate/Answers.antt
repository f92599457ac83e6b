-- `printer::put_gate` meets its contract.
use Rattle.gate.specs.Inner.Words.{gate_of}
use Rattle.text.proofs.Put.{then, text, none}
use Rattle.qasm_writer.proofs.Lines.{gate-shown, gate_hidden}
use Rattle.qasm_writer.proofs.printer.put_gate.Goals as goal

pub returns-in-Some : goal.returns-in-Some
returns-in-Some c =
    text (gate-shown (gate_of c.args.g) c.in-Some.ensures.0) (then c.put_all.ensures (then c.put_indexed.ensures (then c.put_others.ensures c.put_all-in-Some.ensures)))

pub returns-in_default : goal.returns-in_default
returns-in_default c = text (gate_hidden (gate_of c.args.g) c.in_default.ensures) (none _)
