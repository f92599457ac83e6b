-- One step of all branches of a bank, as words.
use Rattle.std.specs.Prelude.{◌≡◌, cond, List, ◌++◌, ℕ, ◌+◌, ◌*◌, ◌/◌, ◌%◌, ◌^◌, ◌<◌, ◌≤◌, eqb, length, ℤ}
use Rattle.std.specs.Int.Bits.{bit_and, bit_xor}
use Rattle.algebra.specs.Sum.{times}
use Rattle.algebra.specs.Words.{blocks}
use Rattle.algebra.specs.Inner.Apart.{Apart}
use Rattle.exact.specs.Exact.{Number, Exact, exact}
use Rattle.gate.specs.Gate.{Gate}
use Rattle.gate.specs.Embed.{gate_entry}
use Rattle.gate.specs.Inner.Rows.{Form, numerators_in, entry_in, Sized}
use Rattle.rows.specs.Inner.Rows.{held_words, held_in, Factors, combined_row}
use Rattle.store.specs.Inner.Held.{StoreAt}
use Rattle.branches.specs.Inner.Store.{no_bit, outcome_words}
use Rattle.branches.specs.Inner.Bank.{matrix_size, branch_size}

-- ---- one operator, given by two entries to a row
-- entry (r, c) of the matrix at `old`
abbrev pub entry_at : List ℤ → ℕ → ℕ → ℕ → ℕ → Exact
entry_at l old d r c = held_in l old (d * d) (r * d + c)

-- row r of an operator with the entries E, in columns r and r ^ m, times the matrix at `old`, by columns
abbrev pub row_sum : List ℤ → ℕ → (ℕ → Exact) → ℕ → ℕ → ℕ → ℕ → Exact
row_sum l m E old d r c = exact.◌⊕◌ (exact.◌⊗◌ (E (r * 2)) (entry_at l old d r c)) (exact.◌⊗◌ (E (r * 2 + 1)) (entry_at l old d (bit_xor r m) c))

-- the numerators of that row
abbrev pub row_numerators : List ℤ → ℕ → Form → ℕ → ℕ → ℕ → ℕ → Number
row_numerators l m R old d r = combined_row l (numerators_in R (r * 2)) (old + r * d * 4) (numerators_in R (r * 2 + 1)) (old + bit_xor r m * d * 4)

-- what it asks: an operator's rows, whose partners come in pairs, and a matrix of factors
pub record Turning (l : List ℤ) (m : ℕ) (R : Form) (at d : ℕ) : Type 0 where
  pub dim : d ≤ 32
  pub below : (r : ℕ) → r < d → bit_xor r m < d
  pub sized : Sized R (d * 2)
  pub factors : Factors l at (d * d)

-- and where the product does not take the matrix's place: another, apart from it
pub record Applying (l : List ℤ) (m : ℕ) (R : Form) (old new d : ℕ) : Type 0 where
  pub turning : Turning l m R old d
  pub new_room : new + matrix_size d ≤ length l
  pub apart : Apart old (matrix_size d) new (matrix_size d)

-- ---- one operator of a gate
-- what is asked of the controls and the bits that it may change
pub record MasksApart (held m : ℕ) : Type 0 where
  pub some : 0 < m
  pub apart : bit_and m held ≡ 0

-- operator j times the matrix at `old`, by rows and columns
abbrev pub product : List ℤ → ℕ → Gate → ℕ → ℕ → ℕ → ℕ → ℕ → Exact
product l n g j old d = times exact d (gate_entry n g j) (entry_at l old d)

-- ---- all operators, and all branches
-- the operator with the entries E times the branch at `old`, and its store with bit `bit` made v
abbrev pub product_words : List ℤ → ℕ → (ℕ → Exact) → ℕ → ℕ → ℕ → ℕ → List ℤ
product_words l m E old d bit v = held_words (d * d) (λ (i : ℕ). row_sum l m E old d (i / d) (i % d)) ++ outcome_words l (old + matrix_size d) bit v

-- one of two operators
abbrev pub operator_in : Form → Form → ℕ → Form
operator_in first second v = cond (eqb v 0) first second

-- the number of the operator of product j: of j's bits from `shift` on those that `mask` has
abbrev pub operator_number : ℕ → ℕ → ℕ → ℕ
operator_number shift mask j = bit_and (j / 2 ^ shift) mask

-- branch j of the step is branch j / ops times operator v j, which has the entries E (v j)
abbrev pub step_words : List ℤ → ℕ → (ℕ → ℕ → Exact) → (ℕ → ℕ) → ℕ → ℕ → ℕ → ℕ → ℕ → List ℤ
step_words l m E v ops from d bit j = product_words l m (E (v j)) (from + j / ops * branch_size d) d bit (v j)

-- what a step asks that splits no branch: operators up to number `mask`, and `count` branches, whose products take their places
pub record StepInPlace (l : List ℤ) (m : ℕ) (R : ℕ → Form) (mask at d count : ℕ) : Type 0 where
  pub dim : d ≤ 32
  pub below : (r : ℕ) → r < d → bit_xor r m < d
  pub sized : (v : ℕ) → v ≤ mask → Sized (R v) (d * 2)
  pub room : at + count * branch_size d ≤ length l
  pub factors : (b : ℕ) → b < count → Factors l (at + b * branch_size d) (d * d)

-- and one that splits each in two: a bank for the products, apart from that of the branches
pub record Step (l : List ℤ) (m : ℕ) (R : ℕ → Form) (from to d count : ℕ) : Type 0 where
  pub branches : StepInPlace l m R 1 from d count
  pub to_room : to + count * 2 * branch_size d ≤ length l
  pub from_apart : Apart from (count * branch_size d) to (count * 2 * branch_size d)
  pub stores : (b : ℕ) → b < count → StoreAt l (from + b * branch_size d + matrix_size d)

-- `count` branches, each times the one operator R
abbrev pub turned : List ℤ → ℕ → Form → ℕ → ℕ → ℕ → List ℤ
turned l m R at d count = blocks (branch_size d) l at count (step_words l m (λ (v : ℕ). entry_in (operator_in R R v)) (operator_number 0 0) 1 at d no_bit)
