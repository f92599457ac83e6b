-- `states::put_binary` meets its contract.
use Rattle.text.proofs.Put.{Left}
use Rattle.answers.specs.States.{binary}
use Rattle.answers.proofs.states.put_binary.Given as goal

abbrev pub invariant-loop-k : goal.invariant-loop-k
invariant-loop-k l = Left l.initial.out (binary l.n l.x) l.out (binary l.k l.x)
