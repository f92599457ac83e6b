-- Square matrices as lists, row by row.
use Rattle.std.specs.Prelude.{List, [], ◌∷◌, ℕ, zero, suc, ◌+◌, ◌*◌, ◌/◌, ◌%◌, get_or}
use Rattle.algebra.specs.Ops.{Ops}
use Rattle.algebra.specs.Sum.{times}

-- f i, f (i + 1), .., n of them
abbrev pub tabulate : {A : Type 0} → ℕ → ℕ → (ℕ → A) → List A
tabulate zero i f = []
tabulate (suc n) i f = f i ∷ tabulate n (suc i) f

-- the matrix of d rows and columns with entries f r c
abbrev pub table : {A : Type 0} → ℕ → (ℕ → ℕ → A) → List A
table d f = tabulate (d * d) 0 (λ (i : ℕ). f (i / d) (i % d))

module _ {A : Type 0} (o : Ops A) (d : ℕ) where
  -- row r, column c
  abbrev pub cell : List A → ℕ → ℕ → A
  cell m r c = get_or m (r * d + c) o.𝟘

  -- G times the matrix m
  abbrev pub left : (ℕ → ℕ → A) → List A → List A
  left G m = table d (times o d G (cell m))
