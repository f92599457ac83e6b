-- `turn_listed` meets its contract.
use mathlib.Core.Path.{◌≡◌, sym, ap, ◌∙◌}
use mathlib.Core.List.{List}
use Prim.Native.Nat.{ℕ}
use native.Mathlib.Omega.{arith}
use lib.IntN.{ℤ}
use Rattle.gate.specs.Inner.Tables.{core_at, rows_by}
use Rattle.branches.specs.declared.bank.Bank.{Bank}
use Rattle.branches.specs.Inner.Step.{turned}
use Rattle.branches.proofs.cores.turn_listed.Goals as goal

-- what is said of matrix k is said of p
listed : (l : List ℤ) (m held : ℕ) (b : Bank) {p k : ℕ} → p ≡ k → {q : List ℤ} → q ≡ turned l m (rows_by held m (core_at k)) b.at b.d b.count → q ≡ turned l m (rows_by held m (core_at p)) b.at b.d b.count
listed l m held b e f = f ∙ ap (λ (k : ℕ). turned l m (rows_by held m (core_at k)) b.at b.d b.count) (sym e)

pub returns-in-0 : goal.returns-in-0
returns-in-0 c = let a = c.args in listed a.work.now a.m a.held a.bank c.in-0.is c.turn_by.ensures

pub returns-in-1 : goal.returns-in-1
returns-in-1 c = let a = c.args in listed a.work.now a.m a.held a.bank c.in-1.is c.turn_by-in-1.ensures

pub returns-in-2 : goal.returns-in-2
returns-in-2 c = let a = c.args in listed a.work.now a.m a.held a.bank c.in-2.is c.turn_by-in-2.ensures

pub returns-in_default : goal.returns-in_default
returns-in_default c =
    let a = c.args in
    let e : a.p ≡ 3 = omega arith in
    listed a.work.now a.m a.held a.bank e c.turn_by-in_default.ensures
