-- Hermitian blocks in words, given on and above their diagonal: the bits that they have, their shifts, and rows of zeros.
use Rattle.std.specs.Prelude.{◌≡◌, true, cond, List, ℕ, zero, suc, ◌+◌, ◌*◌, ◌-◌, ◌/◌, ◌%◌, ◌^◌, ◌<◌, ◌≤◌, leb, length, ℤ}
use Rattle.std.specs.Int.Signed.{shr_z}
use Rattle.algebra.specs.Quadratic.{conjugate}
use Rattle.exact.specs.Exact.{Number, number, numbers, root2, lowest, is_zero}
use Rattle.exact.specs.Inner.Sizes.{Within, room_numerator}
use Rattle.channel.specs.Layout.{word}
use Rattle.channel.specs.Shared.{Shared, shared}
use Rattle.overlaps.specs.Inner.Overlap.{Block}
use Rattle.share.specs.Share.{number_in, or_words}

-- the number on the diagonal of row r of the block at `at`, of w rows
abbrev pub diagonal : List ℤ → ℕ → ℕ → ℕ → Number
diagonal l at w r = number_in l (at + (r * w + r) * 4)

-- entry i of the block: below the diagonal, the conjugate of the entry across it
abbrev pub mirrored_at : List ℤ → ℕ → ℕ → ℕ → Number
mirrored_at l out w i = cond (leb (i / w) (i % w)) (number_in l (out + i * 4)) (conjugate root2 (number_in l (out + (i % w * w + i / w) * 4)))

-- the shared form of that block over 2^e
abbrev pub mirrored_from : List ℤ → ℕ → ℕ → ℕ → Shared
mirrored_from l out w e = shared (w * w) (λ (i : ℕ). lowest (mirrored_at l out w i) e)

-- the bits that some word on or above the diagonal of the first n rows has
abbrev pub or_upper : List ℤ → ℕ → ℕ → ℕ → ℕ
or_upper l at w zero = 0
or_upper l at w (suc r) = or_words (or_upper l at w r) l (at + (r * w + r) * 4) ((w - r) * 4)

-- the numerators at `at`, each shifted by t
abbrev pub shifted_at : List ℤ → ℕ → ℕ → Number
shifted_at l at t = number (shr_z (word l at) (2 ^ t)) (shr_z (word l (at + 1)) (2 ^ t)) (shr_z (word l (at + 2)) (2 ^ t)) (shr_z (word l (at + 3)) (2 ^ t))

-- entry (r, c): on and above the diagonal shifted by t, below it the conjugate of what stands across it
abbrev pub row_shared : List ℤ → ℕ → ℕ → ℕ → ℕ → ℕ → Number
row_shared l out w t r c = cond (leb r c) (shifted_at l (out + (r * w + c) * 4) t) (conjugate root2 (number_in l (out + (c * w + r) * 4)))

-- entry i, row by row: on and above the diagonal shifted by t, below it the conjugate of the shifted entry across it
abbrev pub upper_shared : List ℤ → ℕ → ℕ → ℕ → ℕ → Number
upper_shared l out w t i = cond (leb (i / w) (i % w)) (shifted_at l (out + i * 4) t) (conjugate root2 (shifted_at l (out + (i % w * w + i / w) * 4) t))

-- row r is zero, and column r above the diagonal
pub record ZeroRow (l : List ℤ) (out w r : ℕ) : Type 0 where
  pub row : (c : ℕ) → c < w → number_in l (out + (r * w + c) * 4) ≡ numbers.𝟘
  pub column : (c : ℕ) → c < r → number_in l (out + (c * w + r) * 4) ≡ numbers.𝟘

-- row r of a block of w rows, which is zero where the number on its diagonal is
pub record Row (l : List ℤ) (out w r : ℕ) : Type 0 where
  pub inside : r < w
  pub room : out + w * w * 4 ≤ length l
  pub none : is_zero (diagonal l out w r) ≡ true → ZeroRow l out w r

-- a row of such a block, and numbers in column r that have a negative
pub record Column (l : List ℤ) (out w r : ℕ) : Type 0 where
  pub inside : r < w
  pub room : out + w * w * 4 ≤ length l
  pub sizes : (c : ℕ) → c < r → Within room_numerator (number_in l (out + (c * w + r) * 4))

-- both
pub record Shifting (l : List ℤ) (out w r : ℕ) : Type 0 where
  pub row : Row l out w r
  pub column : Column l out w r

-- a block with numerators in range on and above the diagonal, and such rows
pub record Half (l : List ℤ) (out w : ℕ) : Type 0 where
  pub block : Block l out w
  pub none : (r : ℕ) → r < w → is_zero (diagonal l out w r) ≡ true → ZeroRow l out w r
