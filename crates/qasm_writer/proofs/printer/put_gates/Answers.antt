-- `printer::put_gates` meets its contract.
use mathlib.Core.Path.{ap}
use Prim.Native.Nat.{◌/◌}
use lib.ListN.{length}
use Rattle.algebra.specs.Lists.{concat_map}
use Rattle.gate.specs.Gate.{gate_size}
use Rattle.gate.proofs.Listed.{gates-more, gates-none}
use Rattle.text.proofs.Put.{text, left_less, left-none, left_is}
use Rattle.qasm.specs.Writing.{gate_text}
use Rattle.qasm_writer.proofs.printer.put_gates.Goals as goal

pub loop-i-preserved : goal.loop-i-preserved
loop-i-preserved c =
    let ws = c.args.words.now in
    left_less (left_is (ap (concat_map gate_text) (gates-more ws (length ws / gate_size) c.loop-i.i c.loop-i-test.true)) c.loop-i.invariant)
    (text (ap gate_text c.read_gate.ensures) c.put_gate.ensures)

pub returns : goal.returns
returns c =
    let ws = c.args.words.now in
    left-none (left_is (ap (concat_map gate_text) (gates-none ws (length ws / gate_size) c.loop-i.i c.loop-i-test.false)) c.loop-i.invariant)
