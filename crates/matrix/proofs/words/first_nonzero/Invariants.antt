-- `matrix::words::first_nonzero` meets its contract.
use mathlib.Core.Path.{◌≡◌}
use mathlib.Core.Bool.{Bool}
use mathlib.Core.List.{List}
use Prim.Native.Nat.{ℕ, ◌+◌, ◌*◌, ◌-◌}
use lib.IntN.{ℤ}
use Rattle.cells.specs.Cells.{cell_size}
use Rattle.cells.specs.Inner.Zero.{zero_at}
use Rattle.matrix.specs.Phase.{first_not}
use Rattle.matrix.proofs.words.first_nonzero.Given as goal

-- the test that is made
abbrev pub test : List ℤ → ℕ → ℕ → Bool
test s at k = zero_at s (at + k * cell_size)

abbrev pub invariant-loop-i : goal.invariant-loop-i
invariant-loop-i l = first_not (l.n - l.r) l.r (test l.s l.at) ≡ first_not (l.n - l.i) l.i (test l.s l.at)
