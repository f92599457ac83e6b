-- Decimal numbers in ASCII: what digits say, and the digits of a number.
use Rattle.std.specs.Prelude.{Bool, cond, ◌&&◌, ◌||◌, ℕ, zero, suc, ◌+◌, ◌*◌, ◌-◌, ◌/◌, ◌%◌, eqb, leb, ltb, length, ℤ, pos, negsuc, Option, Some, None}
use mathlib.Core.List.{List, [], ◌∷◌, ◌++◌, foldl}
use Prim.Native.Char.{code}
use Rattle.algebra.specs.Lists.{every}
use Rattle.text.specs.Ascii.{ascii}

-- ---- read
abbrev pub is_blank : ℕ → Bool
is_blank b = eqb b (code " ") || eqb b (code "\n")

abbrev pub is_digit : ℕ → Bool
is_digit b = leb (code "0") b && leb b (code "9")

-- v with the digit b behind it
abbrev pub digit : ℕ → ℕ → ℕ
digit v b = v * 10 + (b - code "0")

-- the number that digits say
unfoldable pub value : List ℕ → ℕ
value p = foldl digit 0 p

abbrev pub max_digits : ℕ
max_digits = 10

abbrev pub max_number : ℕ
max_number = 4294967295

-- 1 to 10 digits that say a number of 32 bits
unfoldable pub is_number : List ℕ → Bool
is_number p = (leb 1 (length p) && leb (length p) max_digits) && (every is_digit p && leb (value p) max_number)

abbrev pub number_of : List ℕ → Option ℕ
number_of p = cond (is_number p) (Some (value p)) None

-- ---- written
-- the decimal digits of n, of which there are at most k, the most significant first
unfoldable pub digits : ℕ → ℕ → List ℕ
digits zero n = []
digits (suc k) n = cond (ltb n 10) ((code "0" + n) ∷ []) (digits k (n / 10) ++ ((code "0" + n % 10) ∷ []))

-- a number of 64 bits has at most so many digits
abbrev pub word_digits : ℕ
word_digits = 20

abbrev pub decimal : ℕ → List ℕ
decimal n = digits word_digits n

-- a number below zero has a minus sign in front
abbrev pub signed : ℤ → List ℕ
signed (pos n) = decimal n
signed (negsuc n) = ascii "-" ++ decimal (suc n)
