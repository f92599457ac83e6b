-- `turn_by` meets its contract.
use Prim.Native.Nat.{ℕ}
use Rattle.algebra.proofs.Blocks.{Writing}
use Rattle.gate.specs.Inner.Rows.{entry_in}
use Rattle.branches.specs.Inner.Store.{no_bit}
use Rattle.branches.specs.Inner.Bank.{branch_size}
use Rattle.gate.specs.Inner.Tables.{rows_by}
use Rattle.branches.specs.Inner.Step.{operator_in, operator_number, step_words}
use Rattle.branches.proofs.cores.turn_by.Given as goal

abbrev pub invariant-loop-j : goal.invariant-loop-j
invariant-loop-j l =
    let R = rows_by l.held l.m l.core in
    let a = l.bank in
    Writing (branch_size a.d) l.initial.work a.at a.count (step_words l.initial.work l.m (λ (v : ℕ). entry_in (operator_in R R v)) (operator_number 0 0) 1 a.at a.d no_bit) l.work l.j
