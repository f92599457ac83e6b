-- `turn_by` meets its contract.
use Prim.Native.Nat.{ℕ}
use Rattle.algebra.proofs.Blocks.{Writing}
use Rattle.gate.specs.Inner.Rows.{entry_in}
use Rattle.branches.specs.Inner.Store.{no_bit}
use Rattle.branches.specs.Inner.Bank.{branch_size}
use Rattle.branches.specs.Inner.Step.{step_words}
use Rattle.pauli_turns.specs.Inner.Turns.{form_of, outcome_number, rotation_in}
use Rattle.pauli_turns.proofs.turn_by.Given as goal

abbrev pub invariant-loop-j : goal.invariant-loop-j
invariant-loop-j g l =
    let a = l.bank in
    Writing (branch_size a.d) l.initial.work a.at a.count (step_words l.initial.work l.axis.flips (λ (v : ℕ). entry_in (rotation_in (form_of l.axis) l.k l.reads v)) (outcome_number l.reads) 1 a.at a.d no_bit) l.work l.j
