-- Numbers of which many are equal, the products with each other's conjugates, and the block of these while it is written: a row for each different number, and then its copies.
use Rattle.std.specs.Prelude.{◌≡◌, Bool, true, cond, not, ◌&&◌, List, ℕ, ◌+◌, ◌*◌, ◌/◌, ◌%◌, ◌<◌, ◌≤◌, eqb, length, get_or, ℤ}
use Rattle.algebra.specs.Quadratic.{conjugate}
use Rattle.algebra.specs.Words.{eqℤ}
use Rattle.exact.specs.Exact.{Number, numbers, root2, list_of, lowest, is_zero, narrow_numerator}
use Rattle.exact.specs.Inner.Sizes.{Within}
use Rattle.channel.specs.Shared.{Shared, shared, all_halves}
use Rattle.share.specs.Share.{number_in}
use Rattle.hermitian.specs.Inner.Upper.{shifted_at}

-- the same four numerators
abbrev pub same : Number → Number → Bool
same x y = (eqℤ x.re.re y.re.re && eqℤ x.re.im y.re.im) && (eqℤ x.im.re y.im.re && eqℤ x.im.im y.im.im)

-- x times the conjugate of number c from k on
abbrev pub times : Number → List ℤ → ℕ → ℕ → Number
times x m k c = numbers.◌⊗◌ x (conjugate root2 (number_in m (k + c * 4)))

-- entry i, row by row, of the block of the products of w numbers with each other's conjugates
abbrev pub product : List ℤ → ℕ → ℕ → ℕ → Number
product m k w i = times (number_in m (k + i / w * 4)) m k (i % w)

-- its shared form, over 2^e
abbrev pub products_shared : List ℤ → ℕ → ℕ → ℕ → Shared
products_shared m k w e = shared (w * w) (λ (i : ℕ). lowest (product m k w i) e)

-- row r is worked out: number r is the first of the same, and not zero
abbrev pub worked : List ℤ → ℕ → List ℕ → ℕ → Bool
worked m k f r = eqb (get_or f r 0) r && not (is_zero (number_in m (k + r * 4)))

-- no word of row r has bit j, if it is worked out
abbrev pub row_clear : List ℤ → ℕ → List ℕ → ℕ → ℕ → ℕ → Bool
row_clear m k f w j r = cond (worked m k f r) ((all_halves w).even (λ (c : ℕ). shifted_at (list_of (times (number_in m (k + r * 4)) m k c)) 0 j)) true

-- entry i, row by row, of the block at `out` of l: zero if the number of its row is, else what stands there
abbrev pub rows_cleared : List ℤ → ℕ → List ℤ → ℕ → ℕ → ℕ → Number
rows_cleared l out m k w i = cond (is_zero (number_in m (k + i / w * 4))) numbers.𝟘 (number_in l (out + i * 4))

-- entry (r, c) of the block: a product if row r is worked out, else what stands there
abbrev pub row_written : List ℤ → ℕ → List ℤ → ℕ → List ℕ → ℕ → ℕ → ℕ → Number
row_written l out m k f w r c = cond (worked m k f r) (times (number_in m (k + r * 4)) m k c) (number_in l (out + (r * w + c) * 4))

abbrev pub rows_written : List ℤ → ℕ → List ℤ → ℕ → List ℕ → ℕ → ℕ → Number
rows_written l out m k f w i = row_written l out m k f w (i / w) (i % w)

-- entry (r, c): what stands there if number r is zero; shifted by t if that is the first of the same; else that of the first row
abbrev pub row_finished : List ℤ → ℕ → List ℤ → ℕ → List ℕ → ℕ → ℕ → ℕ → ℕ → Number
row_finished l out m k f w t r c =
    cond (is_zero (number_in m (k + r * 4))) (number_in l (out + (r * w + c) * 4))
    (cond (eqb (get_or f r 0) r) (shifted_at l (out + (r * w + c) * 4) t) (number_in l (out + (get_or f r 0 * w + c) * 4)))

-- entry i, row by row: what stands there if the number of its row is zero, else that of the first row of the same number, shifted by t
abbrev pub rows_finished : List ℤ → ℕ → List ℤ → ℕ → List ℕ → ℕ → ℕ → ℕ → Number
rows_finished l out m k f w t i = cond (is_zero (number_in m (k + i / w * 4))) (number_in l (out + i * 4)) (shifted_at l (out + (get_or f (i / w) 0 * w + i % w) * 4) t)

-- n places before place r, of the numbers from k on
pub record Places (p : List ℕ) (n : ℕ) (m : List ℤ) (k r : ℕ) : Type 0 where
  pub few : n ≤ 8
  pub before : (i : ℕ) → i < n → get_or p i 0 < r
  pub room : k + r * 4 + 4 ≤ length m

-- for each of w numbers from k on a place that is not after it, of the same number and its own
pub record Firsts (f : List ℕ) (m : List ℤ) (k w : ℕ) : Type 0 where
  pub before : (r : ℕ) → r < w → get_or f r 0 ≤ r
  pub same : (r : ℕ) → r < w → number_in m (k + get_or f r 0 * 4) ≡ number_in m (k + r * 4)
  pub own : (r : ℕ) → r < w → get_or f (get_or f r 0) 0 ≡ get_or f r 0

-- w narrow numbers from k on
pub record Narrow (m : List ℤ) (k w : ℕ) : Type 0 where
  pub few : w ≤ 256
  pub room : k + w * 4 ≤ length m
  pub sizes : (i : ℕ) → i < w → Within narrow_numerator (number_in m (k + i * 4))

-- room for a row of w numbers, and a number to multiply
pub record Row (l : List ℤ) (to : ℕ) (x : Number) (w : ℕ) : Type 0 where
  pub room : to + w * 4 ≤ length l
  pub scale : Within narrow_numerator x

-- such a row, in which the product with number c stands at its first place, if that is before c
pub record Found (l : List ℤ) (to : ℕ) (x : Number) (m : List ℤ) (k : ℕ) (f : List ℕ) (w c : ℕ) : Type 0 where
  pub row : Row l to x w
  pub inside : c < w
  pub stands : get_or f c 0 < c → number_in l (to + get_or f c 0 * 4) ≡ times x m k c

-- row r of a block of w rows at `out`
pub record Block (l : List ℤ) (out w r : ℕ) : Type 0 where
  pub inside : r < w
  pub room : out + w * w * 4 ≤ length l
