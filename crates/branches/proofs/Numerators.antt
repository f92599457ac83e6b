-- The numerators of an operator times a matrix: their value, their sizes, and that the same words have the same.
use mathlib.Core.Path.{◌≡◌, sym, ap, ap₂, ◌∙◌, subst}
use mathlib.Core.Bool.{Bool, true, false, cond}
use mathlib.Core.List.{List}
use Prim.Native.Nat.{ℕ, ◌+◌, ◌*◌, ◌/◌, ◌%◌, ◌^◌, ◌≤◌, ◌<◌}
use native.Mathlib.Nat.{add_comm}
use native.Mathlib.Omega.{arith}
use lib.Arith.{digits_lt}
use lib.Bits.{bit_xor}
use lib.Dec.{eqb}
use lib.IntN.{ℤ, pos, nat_abs}
use mir.Syntax.{w64}
use mir.Val.{to_z, of_z}
use lib.ListN.{get_or}
use lib.Pow.{pow_mono}
use Rattle.algebra.proofs.Quadratic.{ℤ√2i}
use Rattle.algebra.proofs.Dyadic.{value-add, value-mul}
use Rattle.algebra.proofs.Signed.{back, word_is}
use Rattle.algebra.proofs.Blocks.{Same, part, block_in_lem}
use Rattle.algebra.proofs.Squares.{row_lt, column_lt}
use Rattle.exact.specs.Exact.{numbers, Exact, exact, lowest, narrow_exponent, narrow_numerator, number_of}
use Rattle.exact.specs.Inner.Sizes.{Within}
use Rattle.exact.proofs.Exact.{exact_halving}
use Rattle.exact.proofs.Align.{widen}
use Rattle.gate.specs.declared.rows.Row.{Row}
use Rattle.gate.specs.Inner.Rows.{Form, numerators_in, entry_in, Sized}
use Rattle.share.specs.Share.{number_in}
use Rattle.share.proofs.Numbers.{number_same}
use Rattle.rows.specs.Inner.Rows.{held_words, exponent_in, Factors, combined_row}
use Rattle.rows.proofs.Held.{words_same}
use Rattle.branches.specs.Inner.Bank.{matrix_size}
use Rattle.branches.specs.Inner.Step.{entry_at, row_numerators, row_sum}

-- ---- what is said of entries 2·r and 2·r + 1, by their row
module _ {A : Type 0} (f : ℕ → Bool → A) (r : ℕ) where
  pub own_at : f (r * 2 / 2) (eqb (r * 2 % 2) 0) ≡ f r true
  own_at =
      let e : r * 2 / 2 ≡ r = omega arith in
      let g : r * 2 % 2 ≡ 0 = omega arith in
      λ i. f (e i) (eqb (g i) 0)

  pub other_at : f ((r * 2 + 1) / 2) (eqb ((r * 2 + 1) % 2) 0) ≡ f r false
  other_at =
      let e : (r * 2 + 1) / 2 ≡ r = omega arith in
      let g : (r * 2 + 1) % 2 ≡ 1 = omega arith in
      λ i. f (e i) (eqb (g i) 0)

-- ---- values
-- number c of row s, where a row is d numbers
pub row-place : (old d s c : ℕ) → old + s * d * 4 + c * 4 ≡ old + (s * d + c) * 4
row-place old d s c = omega arith

-- the numerators of a row over both powers of two are the row
pub numerators_value : (l : List ℤ) (m : ℕ) (R : Form) (old d r c : ℕ) → lowest (row_numerators l m R old d r c) (exponent_in l old (d * d) + R.exponent) ≡ row_sum l m (entry_in R) old d r c
numerators_value l m R old d r c = sym (value-add ℤ√2i exact_halving (e + R.exponent) _ _) ∙ ap₂ exact.◌⊕◌ (one (r * 2) r) (one (r * 2 + 1) (bit_xor r m))
  where
    e : ℕ
    e = exponent_in l old (d * d)

    one : (i s : ℕ) → lowest (numbers.◌⊗◌ (numerators_in R i) (number_in l (old + s * d * 4 + c * 4))) (e + R.exponent) ≡ exact.◌⊗◌ (entry_in R i) (entry_at l old d s c)
    one i s =
        ap (lowest (numbers.◌⊗◌ (numerators_in R i) (number_in l (old + s * d * 4 + c * 4)))) (add_comm e R.exponent)
        ∙ sym (value-mul ℤ√2i exact_halving R.exponent e (numerators_in R i) _)
        ∙ ap (λ (p : ℕ). exact.◌⊗◌ (entry_in R i) (lowest (number_in l p) e)) (row-place old d s c)

-- ---- sizes
-- the numerators of an operator
module _ (R : Form) (r : ℕ) where
  pub own_is : number_of (R.row r).own ≡ numerators_in R (r * 2)
  own_is = sym (own_at (λ (k : ℕ) (b : Bool). let w : Row = R.row k in number_of (cond b w.own w.other)) r)

  pub other-is : number_of (R.row r).other ≡ numerators_in R (r * 2 + 1)
  other-is = sym (other_at (λ (k : ℕ) (b : Bool). let w : Row = R.row k in number_of (cond b w.own w.other)) r)

pub entry-narrow : {R : Form} {m : ℕ} → Sized R m → (i : ℕ) → i < m → Within narrow_numerator (numerators_in R i)
entry-narrow {R} h i q = widen (2 ^ R.exponent) narrow_numerator (numerators_in R i) (pow_mono h.small) (h.sizes i q)

-- a row as the code reads it
module _ {R : Form} {d : ℕ} (sized : Sized R (d * 2)) {r : ℕ} (h : r < d) {x : Row} (e : x ≡ R.row r) where
  pub own_narrow : Within narrow_numerator (number_of x.own)
  own_narrow = subst (Within narrow_numerator) (sym (own_is R r) ∙ ap (λ (x : Row). number_of x.own) (sym e)) (entry-narrow sized (r * 2) (omega arith))

  pub other_narrow : Within narrow_numerator (number_of x.other)
  other_narrow = subst (Within narrow_numerator) (sym (other-is R r) ∙ ap (λ (x : Row). number_of x.other) (sym e)) (entry-narrow sized (r * 2 + 1) (omega arith))

-- and what it makes of two rows of numbers that are as they were
pub row_made : (l b : List ℤ) (m : ℕ) (R : Form) (old d r c : ℕ) {x : Row} → x ≡ R.row r → number_in b (old + r * d * 4 + c * 4) ≡ number_in l (old + r * d * 4 + c * 4)
    → number_in b (old + bit_xor r m * d * 4 + c * 4) ≡ number_in l (old + bit_xor r m * d * 4 + c * 4)
    → combined_row b (number_of x.own) (old + r * d * 4) (number_of x.other) (old + bit_xor r m * d * 4) c ≡ row_numerators l m R old d r c
row_made l b m R old d r c e own other =
    let p = ap (λ (x : Row). number_of x.own) e ∙ own_is R r in
    let q = ap (λ (x : Row). number_of x.other) e ∙ other-is R r in
    λ i. numbers.◌⊕◌ (numbers.◌⊗◌ (p i) (own i)) (numbers.◌⊗◌ (q i) (other i))

-- a matrix of factors
module _ {l : List ℤ} {at n : ℕ} (p : Factors l at n) where
  pub exponent_small : exponent_in l at n ≤ narrow_exponent
  exponent_small = (word_is narrow_exponent (get_or l (at + n * 4) (pos 0)) p.exponent).1

  -- as code reads it
  pub exponent_read : nat_abs (to_z w64 (of_z w64 (get_or l (at + n * 4) (pos 0)))) ≡ exponent_in l at n
  exponent_read = ap nat_abs (back (get_or l (at + n * 4) (pos 0)) (omega (arith, exponent_small)))

  pub factor_narrow : (i : ℕ) → i < n → Within narrow_numerator (number_in l (at + i * 4))
  factor_narrow i h = widen (2 ^ exponent_in l at n) narrow_numerator (number_in l (at + i * 4)) (pow_mono exponent_small) (p.sizes i h)

-- ---- the same words have the same numbers and sums of rows
module _ {l b : List ℤ} {old : ℕ} (d : ℕ) (matrix : Same b l old (matrix_size d)) where
  numbers-same : (k c : ℕ) → k < d → c < d → number_in b (old + (k * d + c) * 4) ≡ number_in l (old + (k * d + c) * 4)
  numbers-same k c hk hc = let h = block_in_lem (digits_lt hk hc) 4 in number_same (part matrix (old + (k * d + c) * 4) 4 (omega arith) (omega arith))

  -- by rows
  pub row-same : (k c : ℕ) → k < d → c < d → number_in b (old + k * d * 4 + c * 4) ≡ number_in l (old + k * d * 4 + c * 4)
  row-same k c hk hc = ap (number_in b) (row-place old d k c) ∙ numbers-same k c hk hc ∙ ap (number_in l) (sym (row-place old d k c))

  entry-same : (k c : ℕ) → k < d → c < d → entry_at b old d k c ≡ entry_at l old d k c
  entry-same k c hk hc = ap₂ lowest (numbers-same k c hk hc) (ap nat_abs (matrix.word (old + d * d * 4) (omega arith) (omega arith)))

  pub sums_same : (m : ℕ) (E : ℕ → Exact) → ((r : ℕ) → r < d → bit_xor r m < d) → held_words (d * d) (λ (i : ℕ). row_sum b m E old d (i / d) (i % d)) ≡ held_words (d * d) (λ (i : ℕ). row_sum l m E old d (i / d) (i % d))
  sums_same m E below = words_same (d * d) _ _ (λ k h. sum (k / d) (k % d) (row_lt k d h) (column_lt k d h))
    where
      sum : (r c : ℕ) → r < d → c < d → row_sum b m E old d r c ≡ row_sum l m E old d r c
      sum r c hr hc = λ i. exact.◌⊕◌ (exact.◌⊗◌ (E (r * 2)) (entry-same r c hr hc i)) (exact.◌⊗◌ (E (r * 2 + 1)) (entry-same (bit_xor r m) c (below r hr) hc i))
