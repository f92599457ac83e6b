-- `Branch::is_first` meets its contract: no branch before branch j has the store.
use mathlib.Core.Path.{◌≡◌}
use mathlib.Core.Bool.{true, not}
use Prim.Native.Nat.{ℕ}
use Rattle.algebra.specs.Lists.{all_below}
use Rattle.collect.specs.Inner.Bank.{store_of, has}
use Rattle.collect.proofs.bank.Branch.is_first.Given as goal

abbrev pub invariant-loop-j : goal.invariant-loop-j
invariant-loop-j l =
    let b = l.self in
    all_below l.j (λ (i : ℕ). not (has b.work.now b.bank.at b.bank.d (store_of b.work.now b.bank.at b.bank.d b.j) i)) ≡ true
