-- `judge_named` meets its contract.
use mathlib.Core.Path.{sym, ◌∙◌}
use Rattle.qasm_writer.specs.Call.{named_at}
use Rattle.qasm_writer.proofs.Asked.{ask_yes, ask_no}
use Rattle.gate.specs.Inner.Words.{gate_of}
use Rattle.qasm_writer.proofs.Lines.{named}
use Rattle.qasm_writer.proofs.judge_named.Goals as goal

pub returns-then-is_none : goal.returns-then-is_none
returns-then-is_none c =
    sym
    (c.loop-i.invariant
    ∙ ask_no named_at c.args.words.now c.loop-i-test.true c.read_gate-g.ensures (named (gate_of c.read_gate-g.result) c.name.result c.name.ensures ∙ c.if-is_none.ensures))

pub loop-i-preserved : goal.loop-i-preserved
loop-i-preserved c =
    c.loop-i.invariant
    ∙ ask_yes named_at c.args.words.now c.loop-i-test.true c.read_gate-g.ensures (named (gate_of c.read_gate-g.result) c.name.result c.name.ensures ∙ c.if-is_none.ensures)
