-- `number::number_in` meets its contract.
use Rattle.text.proofs.Read.{Reading}
use Rattle.text.proofs.number.number_in.Given as goal

abbrev pub invariant-loop-b : goal.invariant-loop-b
invariant-loop-b l = Reading l.piece l.v l.b-index
