-- Branches in lent words: a bank holds them one after the other, each as the numerators of its matrix, the exponent that they share and two words of store.
use Rattle.std.specs.Prelude.{◌≡◌, List, ◌++◌, ℕ, ◌+◌, ◌*◌, ◌<◌, ◌≤◌, length, get_or, ℤ, pos}
use Rattle.algebra.specs.Lists.{concat_map}
use Rattle.algebra.specs.Sum.{δ}
use Rattle.exact.specs.Exact.{exact}
use Rattle.cells.specs.Cells.{cell_size}
use Rattle.rows.specs.Inner.Rows.{held_words}
use Rattle.kraus.specs.Dense.{table}
use Rattle.kraus.specs.Branch.{Store, Branch}
use Rattle.branches.specs.Inner.Store.{store_words}

-- the words of a matrix, and of a branch, with d rows and columns
abbrev pub matrix_size : ℕ → ℕ
matrix_size d = d * d * 4 + 1

abbrev pub branch_size : ℕ → ℕ
branch_size d = matrix_size d + 2

-- the words that a circuit asks for a branch
abbrev pub slot_size : ℕ → ℕ
slot_size d = d * d * cell_size + 2

abbrev pub branch_words : ℕ → Branch → List ℤ
branch_words d b = held_words (d * d) (λ (i : ℕ). get_or b.matrix i exact.𝟘) ++ store_words b.store

abbrev pub bank_words : ℕ → List Branch → List ℤ
bank_words d = concat_map (branch_words d)

-- the branch that a circuit starts from
abbrev pub identity_branch : ℕ → Store → Branch
identity_branch d σ = record { matrix = table d (δ exact); store = σ }

-- the words ws stand in l from `at` on
pub record Holds (l : List ℤ) (at : ℕ) (ws : List ℤ) : Type 0 where
  pub room : at + length ws ≤ length l
  pub word : (k : ℕ) → k < length ws → get_or l (at + k) (pos 0) ≡ get_or ws k (pos 0)
