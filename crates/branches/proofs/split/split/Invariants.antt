-- `split` meets its contract.
use Prim.Native.Nat.{ℕ, ◌*◌, ◌%◌}
use Rattle.std.specs.Prelude.{unwrap_or}
use Rattle.algebra.proofs.Blocks.{Writing}
use Rattle.gate.specs.Inner.Rows.{entry_in}
use Rattle.branches.specs.Inner.Store.{no_bit}
use Rattle.branches.specs.Inner.Bank.{branch_size}
use Rattle.branches.specs.Inner.Step.{step_words}
use Rattle.branches.proofs.split.split.Given as goal

abbrev pub invariant-loop-j : goal.invariant-loop-j
invariant-loop-j g l =
    let T = g.T.KrausPair in
    let b = l.from in
    Writing (branch_size b.d) l.initial.work l.to (b.count * 2) (step_words l.initial.work (T.flips l.by) (λ (v : ℕ). entry_in (T.operator l.by v)) (λ (j : ℕ). j % 2) 2 b.at b.d (unwrap_or l.bit no_bit)) l.work l.j
