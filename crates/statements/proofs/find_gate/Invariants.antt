-- `find_gate` meets its contract.
use Rattle.qasm.specs.Inner.Left.{tokens_left}
use Rattle.statements.proofs.Counting.{Counting}
use Rattle.statements.proofs.find_gate.Given as goal

abbrev pub invariant-loop-token : goal.invariant-loop-token
invariant-loop-token l = Counting l.text l.index l.before l.opening (tokens_left l.token-iterator)
