-- `Record::numbers` meets its contract.
use Rattle.std.proofs.Common.{◌≡◌, refl, ap, ◌∙◌, List, ℕ}
use Rattle.replay.specs.declared.record.Record.{Record}
use Rattle.replay.specs.Record.{with_number}
use Rattle.replay.proofs.Folds.{fold_step, fold_end}
use Rattle.replay.proofs.record.Record.numbers.Goals as goal

pub loop-n-init : goal.loop-n-init
loop-n-init g c = refl

-- one number more, which is the size of the element x
sized : {A : Type 0} (size : A → ℕ) (t : List ℕ) (s : Record) {r : Record} {n : ℕ} {x y : A} → r ≡ with_number t s n → n ≡ size x → x ≡ y → r ≡ with_number t s (size y)
sized size t s p q e = p ∙ ap (with_number t s) (q ∙ ap size e)

pub loop-n-preserved : goal.loop-n-preserved
loop-n-preserved g c =
    let t = c.args.text.now in
    let size = g.T.Number.size_of in
    fold_step (λ s n. with_number t s (size n)) c.args.self c.args.ns.now c.loop-n.n-index c.loop-n.invariant c.n-item.result c.loop-n-test.true
    (sized size t c.loop-n.seen c.number-seen.ensures c.size.ensures c.n-item.is)

pub returns : goal.returns
returns g c = fold_end (λ s n. with_number c.args.text.now s (g.T.Number.size_of n)) c.args.self c.args.ns.now c.loop-n.n-index c.loop-n.invariant c.loop-n-test.false
