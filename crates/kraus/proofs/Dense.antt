-- Matrices as lists, row by row: what is read back, and matrices that multiply one on the left.
use mathlib.Core.Path.{◌≡◌, refl, sym, ap, ap₂, ◌∙◌}
use mathlib.Core.List.{List, ◌∷◌}
use Prim.Native.Nat.{ℕ, zero, suc, ◌+◌, ◌*◌, ◌/◌, ◌%◌, ◌≤◌, ◌<◌}
use native.Mathlib.Omega.{arith}
use lib.ListN.{length, get_or}
use lib.Arith.{digits_div, digits_mod, digits_lt}
use Rattle.algebra.specs.Ops.{Ops}
use Rattle.algebra.specs.Sum.{times}
use Rattle.algebra.proofs.Semi.{Semi}
use Rattle.algebra.proofs.Sum.{times-same, times_assoc}
use Rattle.algebra.proofs.Squares.{row_lt, column_lt}
use Rattle.kraus.specs.Dense.{tabulate, table, cell, left}

module _ {A : Type 0} where
  pub tabulate-length : (n i : ℕ) (f : ℕ → A) → length (tabulate n i f) ≡ n
  tabulate-length zero i f = refl
  tabulate-length (suc n) i f = ap suc (tabulate-length n (suc i) f)

  pub tabulate-same : (n i : ℕ) (f g : ℕ → A) → ((k : ℕ) → i ≤ k → k < i + n → f k ≡ g k) → tabulate n i f ≡ tabulate n i g
  tabulate-same zero i f g h = refl
  tabulate-same (suc n) i f g h = ap₂ ◌∷◌ (h i (omega arith) (omega arith)) (tabulate-same n (suc i) f g (λ k l m. h k (omega arith) (omega arith)))

  pub tabulate-at : (n i : ℕ) (f : ℕ → A) (z : A) (k : ℕ) → k < n → get_or (tabulate n i f) k z ≡ f (i + k)
  tabulate-at zero i f z k l = absurd (omega arith)
  tabulate-at (suc n) i f z zero l = ap f (omega arith)
  tabulate-at (suc n) i f z (suc k) l = tabulate-at n (suc i) f z k (omega arith) ∙ ap f (omega arith)

  pub cell-table : (o : Ops A) (d : ℕ) (f : ℕ → ℕ → A) (r c : ℕ) → r < d → c < d → cell o d (table d f) r c ≡ f r c
  cell-table o d f r c l m =
      tabulate-at (d * d) 0 (λ (i : ℕ). f (i / d) (i % d)) o.𝟘 (r * d + c) (digits_lt l m)
      ∙ ap (λ (i : ℕ). f (i / d) (i % d)) (omega arith)
      ∙ ap₂ f (digits_div r m) (digits_mod r m)

  pub table_same : (d : ℕ) (f g : ℕ → ℕ → A) → ((r c : ℕ) → r < d → c < d → f r c ≡ g r c) → table d f ≡ table d g
  table_same d f g h = tabulate-same (d * d) 0 _ _ (λ k l m. h (k / d) (k % d) (row_lt k d (omega arith)) (column_lt k d (omega arith)))

module _ (𝓡 : Semi) (d : ℕ) where
  open 𝓡 use {R, ops}

  pub left-left : (G H : ℕ → ℕ → R) (m : List R) → left ops d G (left ops d H m) ≡ left ops d (times ops d G H) m
  left-left G H m = table_same d _ _ (λ r c k l.
      times-same 𝓡 d G G (cell ops d (left ops d H m)) (times ops d H (cell ops d m)) r c (λ j i. refl) (λ j i. cell-table ops d (times ops d H (cell ops d m)) j c i l)
      ∙ times_assoc 𝓡 d G H (cell ops d m) r c)

  pub left_commute : (G H : ℕ → ℕ → R) → ((r c : ℕ) → times ops d G H r c ≡ times ops d H G r c) → (m : List R) → left ops d G (left ops d H m) ≡ left ops d H (left ops d G m)
  left_commute G H h m =
      left-left G H m
      ∙ table_same d _ _ (λ r c k l. times-same 𝓡 d (times ops d G H) (times ops d H G) (cell ops d m) (cell ops d m) r c (λ j i. h r j) (λ j i. refl))
      ∙ sym (left-left H G m)
