-- `states::put_bra_ket` meets its contract.
use Rattle.text.proofs.Put.{then, text}
use Rattle.answers.specs.States.{outer}
use Rattle.answers.proofs.states.put_bra_ket.Goals as goal

pub returns : goal.returns
returns c =
    let n = c.args.n in
    then
    (then (then c.put_all.ensures (text (λ j. outer n (c.low.ensures j) (c.low-2.ensures j)) c.put_outer.ensures)) c.put_all-2.ensures)
    (text (λ j. outer n (c.high.ensures j) (c.high-2.ensures j)) c.put_outer-2.ensures)
