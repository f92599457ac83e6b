-- Equality of two matrices up to a global phase: the answer, and what it means.
use Rattle.std.specs.Prelude.{◌≡◌, Bool, true, false, cond, ◌&&◌, List, [], ◌∷◌, ◌↔◌, ℕ, zero, suc, ◌*◌, ◌<◌, eqb, length, ℤ, Result, Ok, Err}
use Rattle.algebra.specs.Lists.{all_below, some}
use Rattle.exact.specs.Exact.{Exact, exact, conj, narrow, equal, is_zero}
use Rattle.verdict.specs.declared.Refusal.{Refusal}
use Rattle.verdict.specs.declared.Refusal.TheVariants.{TooLarge, Malformed}
use Rattle.cells.specs.Cells.{cell_size, cell_at, well_formed_at}
use Rattle.matrix.specs.declared.Phase.{Phase}
use Rattle.matrix.specs.declared.Phase.TheVariants.{Equivalent, Different}

-- ---- the questions
-- a matrix of no to five qubits
abbrev pub is_dim : ℕ → Bool
is_dim d = some (eqb d) (1 ∷ 2 ∷ 4 ∷ 8 ∷ 16 ∷ 32 ∷ [])

-- entry i of a matrix, counted row by row
abbrev pub entry_of : List ℤ → ℕ → Exact
entry_of l i = cell_at l (i * cell_size)

-- exactly d² entries, each in range and in lowest form
abbrev pub well_formed_matrix : ℕ → List ℤ → Bool
well_formed_matrix d l = is_dim d && (eqb (length l) (d * d * cell_size) && all_below (d * d) (λ (i : ℕ). well_formed_at l (i * cell_size)))

abbrev pub narrow_matrix : ℕ → List ℤ → Bool
narrow_matrix d l = all_below (d * d) (λ (i : ℕ). narrow (entry_of l i))

-- ---- the rule, on n entries x of the left matrix and y of the right one
infixl 70 ◌·◌
abbrev pub ◌·◌ : Exact → Exact → Exact
◌·◌ = exact.◌⊗◌

abbrev pub zero_matrix : ℕ → (ℕ → Exact) → Bool
zero_matrix n x = all_below n (λ (i : ℕ). is_zero (x i).num)

-- |a| = |b|
abbrev pub equal_modulus : Exact → Exact → Bool
equal_modulus a b = equal (a · conj a) (b · conj b)

-- each pair is in the ratio of a to b
abbrev pub equal_ratios : ℕ → (ℕ → Exact) → (ℕ → Exact) → Exact → Exact → Bool
equal_ratios n x y a b = all_below n (λ (j : ℕ). equal (x j · b) (y j · a))

-- with entry i as the pivot
abbrev pub in_phase_at : ℕ → (ℕ → Exact) → (ℕ → Exact) → ℕ → Bool
in_phase_at n x y i = equal_modulus (x i) (y i) && equal_ratios n x y (x i) (y i)

-- the first of k numbers from i on at which p fails, or the one after them
unfoldable pub first_not : ℕ → ℕ → (ℕ → Bool) → ℕ
first_not zero i p = i
first_not (suc k) i p = cond (p i) (first_not k (suc i) p) i

-- the first entry that is not zero
abbrev pub pivot : ℕ → (ℕ → Exact) → ℕ
pivot n x = first_not n 0 (λ (i : ℕ). is_zero (x i).num)

-- a zero matrix is equivalent to a zero matrix only
abbrev pub in_phase : ℕ → (ℕ → Exact) → (ℕ → Exact) → Bool
in_phase n x y = cond (zero_matrix n x) (zero_matrix n y) (in_phase_at n x y (pivot n x))

-- ---- the answer
abbrev pub phase_of : Bool → Phase
phase_of b = cond b Equivalent Different

-- 10, then the dims, then 9, then the rule
abbrev pub phase_answer : ℕ → List ℤ → ℕ → List ℤ → Result Phase Refusal
phase_answer d l e m =
    cond (well_formed_matrix d l && well_formed_matrix e m)
    (cond (eqb d e)
    (cond (narrow_matrix d l && narrow_matrix e m) (Ok (phase_of (in_phase (d * d) (entry_of l) (entry_of m)))) (Err TooLarge))
    (Ok Different))
    (Err Malformed)

-- ---- what it means: y = u·x, where u = b/a is a number of modulus 1
pub record GlobalPhase (n : ℕ) (x y : ℕ → Exact) : Type 0 where
  pub a : Exact
  pub b : Exact
  pub nonzero : is_zero a.num ≡ false
  pub modulus : a · conj a ≡ b · conj b
  pub ratio : (i : ℕ) → i < n → x i · b ≡ y i · a

pub record Meaning : Type 0 where
  -- "equivalent" exactly where there is such a phase
  pub exactly : (d : ℕ) (l m : List ℤ) → well_formed_matrix d l ≡ true → well_formed_matrix d m ≡ true → narrow_matrix d l ≡ true → narrow_matrix d m ≡ true
      → (phase_answer d l d m ≡ Ok Equivalent) ↔ GlobalPhase (d * d) (entry_of l) (entry_of m)
  -- a zero matrix has a phase to a zero matrix alone
  pub zero_only : (n : ℕ) (x y : ℕ → Exact) → zero_matrix n x ≡ true → GlobalPhase n x y ↔ (zero_matrix n y ≡ true)
  -- any nonzero entry serves as the pivot
  pub any_pivot : (n : ℕ) (x y : ℕ → Exact) (i : ℕ) → i < n → is_zero (x i).num ≡ false → in_phase_at n x y i ≡ in_phase n x y
