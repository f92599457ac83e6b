-- What is written is read back.
use Rattle.std.specs.Prelude.{◌≡◌, true, not, ◌||◌, List, ℕ, ◌≤◌, ◌<◌, ◌^◌, eqb, length, get_or}
use Prim.Native.Char.{code}
use Rattle.algebra.specs.Lists.{every}
use Rattle.text.specs.Decimal.{is_digit, value, max_number, is_number, word_digits, decimal}

-- the digits d say n, with no zero in front
pub record Says (n : ℕ) (d : List ℕ) : Type 0 where
  pub some : 1 ≤ length d
  pub digits : every is_digit d ≡ true
  pub is : value d ≡ n
  pub lead : (not (eqb (get_or d 0 0) (code "0")) || eqb (length d) 1) ≡ true

abbrev pub RoundTrip : Type 0
RoundTrip = (n : ℕ) → n < 10 ^ word_digits → Says n (decimal n)

-- a number of 32 bits is one as it is written
abbrev pub Reads : Type 0
Reads = (n : ℕ) → n ≤ max_number → is_number (decimal n) ≡ true
