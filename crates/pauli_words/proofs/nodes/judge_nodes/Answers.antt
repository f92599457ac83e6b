-- One node more at each pass; the first that is refused decides.
use Rattle.std.proofs.Common.{ap, ◌∙◌, arith, take}
use Rattle.verdict.proofs.Questions.{returned}
use Rattle.pauli_nodes.specs.Inner.Masks.{mask_after}
use Rattle.pauli_words.specs.Questions.{number_of}
use Rattle.pauli_words.proofs.Asked.{passed_none, node_decides, node_passes}
use Rattle.pauli_words.proofs.nodes.judge_nodes.Goals as goal

pub loop-i-init : goal.loop-i-init
loop-i-init c = passed_none c.args.words.now c.args.n c.fill_basis.new.masks c.fill_basis.ensures

pub loop-i-preserved : goal.loop-i-preserved
loop-i-preserved c =
    let a = c.args in
    let (passes, is_node, sound) = c.in_ok-node.ensures in
    node_passes a.words.now a.n c.loop-i.invariant c.loop-i-test.true c.read_gate.ensures passes c.mask.result (omega arith)
    (c.mask.ensures ∙ ap (mask_after a.n (take (number_of a.n c.loop-i.i) c.loop-i.masks)) is_node)

pub returns-in_err-node-clause-value : goal.returns-in_err-node-clause-value
returns-in_err-node-clause-value c =
    returned _ c.from_residual.ensures.1 ∙ node_decides c.args.words.now c.args.n c.loop-i.invariant c.loop-i-test.true c.read_gate.ensures c.in_err-node.ensures
