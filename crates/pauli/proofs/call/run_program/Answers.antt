-- The mask forms of all nodes are those of an accepted program.
use Rattle.std.proofs.Common.{arith}
use Rattle.pauli_words.specs.Words.{nodes_of}
use Rattle.pauli.proofs.Running.{few-nodes, runs}
use Rattle.pauli.proofs.call.run_program.Goals as goal

pub run_operations-requires : goal.run_operations-requires
run_operations-requires c =
    let r = c.requires.program in
    (nodes_of c.args.program.nodes.now, runs r.accepted r.dim r.count c.args.masks.now c.node_count.ensures (omega (arith, few-nodes r.accepted)) c.requires.forms)

pub returns : goal.returns
returns c =
    let r = c.requires.program in
    c.run_operations.ensures (nodes_of c.args.program.nodes.now) (runs r.accepted r.dim r.count c.args.masks.now c.node_count.ensures (omega (arith, few-nodes r.accepted)) c.requires.forms)
