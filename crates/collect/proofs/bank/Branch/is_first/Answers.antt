-- `Branch::is_first` meets its contract.
use mathlib.Core.Path.{sym, ap, ◌∙◌}
use mathlib.Core.Bool.{not}
use Prim.Native.Nat.{ℕ}
use Rattle.algebra.proofs.Tests.{all_no}
use Rattle.collect.specs.Inner.Bank.{store_of, has}
use Rattle.collect.proofs.bank.Branch.is_first.Goals as goal

pub returns-then-has_store : goal.returns-then-has_store
returns-then-has_store c =
    let b = c.args.self in
    let found = ap (λ (x : ℕ). has b.work.now b.bank.at b.bank.d x c.loop-j.j) (sym c.store-store.ensures) ∙ sym c.has_store.ensures ∙ c.if-has_store.true in
    sym (all_no b.j c.loop-j.j (λ (j : ℕ). not (has b.work.now b.bank.at b.bank.d (store_of b.work.now b.bank.at b.bank.d b.j) j)) c.loop-j-test.true (ap not found))
