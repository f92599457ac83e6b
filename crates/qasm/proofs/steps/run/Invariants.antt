-- `steps::run` meets its contract.
use Rattle.qasm.proofs.Going.{Going}
use Rattle.qasm.specs.Inner.Left.{tokens_left}
use Rattle.qasm.proofs.steps.run.Given as goal

abbrev pub invariant-loop-token : goal.invariant-loop-token
invariant-loop-token l = Going (tokens_left l.tokens) l.initial.gates l.gates l.s (tokens_left l.token-iterator)
