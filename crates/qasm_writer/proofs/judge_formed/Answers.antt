-- `judge_formed` meets its contract.
use mathlib.Core.Path.{sym, ◌∙◌}
use Rattle.qasm_writer.specs.Call.{formed_at}
use Rattle.qasm_writer.proofs.Asked.{ask_yes, ask_no}
use Rattle.qasm_writer.proofs.judge_formed.Goals as goal

pub returns-then-not-is_formed : goal.returns-then-not-is_formed
returns-then-not-is_formed c =
    sym (c.loop-i.invariant ∙ ask_no formed_at c.args.words.now c.loop-i-test.true c.read_gate-g.ensures (sym c.if-not-is_formed.ensures))

pub loop-i-preserved : goal.loop-i-preserved
loop-i-preserved c =
    c.loop-i.invariant ∙ ask_yes formed_at c.args.words.now c.loop-i-test.true c.read_gate-g.ensures (sym c.if-not-is_formed.ensures)
