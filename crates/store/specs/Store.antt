-- Stores: the values of the classical bits. As bytes, one a bit; as a number, in which bit j weighs 2^j; as two words, bits 0 to 31 and bits 32 to 63.
use Rattle.std.specs.Prelude.{Bool, false, cond, ◌&&◌, List, [], ◌∷◌, ℕ, zero, suc, ◌+◌, ◌*◌, ◌-◌, ◌/◌, ◌%◌, ◌^◌, eqb, leb, ltb, length, ℤ, pos, nat_abs}
use Rattle.algebra.specs.Lists.{every}

-- one byte a bit, each 0 or 1
abbrev pub store_fits : ℕ → List ℕ → Bool
store_fits m σ = eqb (length σ) m && every (λ (b : ℕ). leb b 1) σ

-- bits 0 to n − 1 of a number
abbrev pub bits : ℕ → ℕ → List ℕ
bits zero x = []
bits (suc n) x = x % 2 ∷ bits n (x / 2)

-- ---- stores in rising order, read from bit 0 on
-- 0 before 1, at the first bit that differs
abbrev pub precedes : List ℕ → List ℕ → Bool
precedes [] ys = false
precedes (x ∷ xs) [] = false
precedes (x ∷ xs) (y ∷ ys) = cond (eqb x y) (precedes xs ys) (ltb x y)

unfoldable pub before : ℕ → ℕ → Bool
before x y = precedes (bits 64 x) (bits 64 y)

-- ---- two words
abbrev pub word_bits : ℕ
word_bits = 32

abbrev pub max_word : ℕ
max_word = 2 ^ word_bits - 1

abbrev pub store_from : ℤ → ℤ → ℕ
store_from low high = nat_abs low + nat_abs high * 2 ^ word_bits

abbrev pub low_word : ℕ → ℤ
low_word s = pos (s % 2 ^ word_bits)

abbrev pub high_word : ℕ → ℤ
high_word s = pos (s / 2 ^ word_bits)
