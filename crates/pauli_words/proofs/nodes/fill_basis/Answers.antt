-- One qubit more at each pass.
use Rattle.std.proofs.Common.{arith}
use Rattle.pauli_nodes.specs.Inner.Masks.{Mask}
use lib.ListN.{length-set}
use Rattle.pauli_words.proofs.Held.{laid_none, laid_qubit}
use Rattle.pauli_words.proofs.nodes.fill_basis.Goals as goal

pub loop-q-init : goal.loop-q-init
loop-q-init c = laid_none c.args.n c.args.masks.now (omega arith) c.identity.ensures

pub loop-q-preserved : goal.loop-q-preserved
loop-q-preserved c =
    laid_qubit c.args.n c.loop-q.invariant c.loop-q-test.true (omega (arith, length-set {A = Mask})) c.weight_of-w.result c.single.result c.single-in-loop-q.result
    c.weight_of-w.ensures.0 c.single.ensures c.single-in-loop-q.ensures
