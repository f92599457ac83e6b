-- The first of some entries, and entries that are all zero.
use Rattle.std.specs.Prelude.{Bool, cond, ltb, Option, Some, None, List, ℕ, ◌+◌, ◌*◌, ℤ}
use Rattle.algebra.specs.Lists.{all_below}
use Rattle.cells.specs.Cells.{cell_size}
use Rattle.cells.specs.Inner.Zero.{zero_at}

-- the number, where it is one of n entries
abbrev pub one_of : ℕ → ℕ → Option ℕ
one_of n i = cond (ltb i n) (Some i) None

-- n entries from `at` on are zero
abbrev pub zeros : List ℤ → ℕ → ℕ → Bool
zeros l at n = all_below n (λ (i : ℕ). zero_at l (at + i * cell_size))
