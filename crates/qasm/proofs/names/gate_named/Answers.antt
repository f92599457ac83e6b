-- `names::gate_named` meets its contract.
use Rattle.std.proofs.Common.{refl, sym, ◌∙◌}
use Rattle.qasm.proofs.Named.{named_later, named_here, named_end}
use Rattle.qasm.proofs.names.gate_named.Goals as goal

pub loop-name-init : goal.loop-name-init
loop-name-init c = refl

pub loop-name-preserved : goal.loop-name-preserved
loop-name-preserved c = c.loop-name.invariant ∙ named_later c.args.word.now _ _ c.loop-name-test.true c.eq.ensures c.if-eq.false

pub returns-then-eq : goal.returns-then-eq
returns-then-eq c = named_here c.args.word.now _ _ c.loop-name-test.true c.eq.ensures c.if-eq.true ∙ sym c.loop-name.invariant

pub returns : goal.returns
returns c = named_end c.args.word.now _ c.loop-name-test.false ∙ sym c.loop-name.invariant
