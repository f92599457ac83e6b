-- Finite sums from 0 up, and the product of two square matrices.
use Rattle.std.specs.Prelude.{cond, List, [], ◌∷◌, ℕ, zero, suc, eqb}
use Rattle.algebra.specs.Ops.{Ops}

module _ {A : Type 0} (o : Ops A) where
  infixl 60 ◌⊕◌
  infixl 70 ◌⊗◌
  open o use {𝟘, 𝟙, ◌⊕◌, ◌⊗◌}

  -- f 0 + f 1 + .. + f (n − 1)
  abbrev pub sum : ℕ → (ℕ → A) → A
  sum zero f = 𝟘
  sum (suc n) f = sum n f ⊕ f n

  -- the sum of φ over a list
  abbrev pub list_sum : {B : Type 0} → (B → A) → List B → A
  list_sum φ [] = 𝟘
  list_sum φ (x ∷ xs) = φ x ⊕ list_sum φ xs

  -- row r, column c of the product of two matrices of d rows and columns
  abbrev pub times : ℕ → (ℕ → ℕ → A) → (ℕ → ℕ → A) → ℕ → ℕ → A
  times d G H r c = sum d (λ (k : ℕ). G r k ⊗ H k c)

  -- the identity matrix
  abbrev pub δ : ℕ → ℕ → A
  δ r c = cond (eqb r c) 𝟙 𝟘
