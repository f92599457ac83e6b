-- `states::put_outer` meets its contract.
use Rattle.text.proofs.Put.{then}
use Rattle.answers.proofs.states.put_outer.Goals as goal

pub returns : goal.returns
returns c =
    then (then (then (then c.put.ensures c.put_binary.ensures) c.put_all.ensures) c.put_binary-2.ensures) c.put-2.ensures
