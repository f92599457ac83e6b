-- The checksum of words: two polynomial sums mod 2^31 − 1, over the low 31 bits and then the high bits of each word + 2^61.
use Rattle.std.specs.Prelude.{cond, List, fold, ℕ, ◌+◌, ◌*◌, ◌/◌, ◌%◌, ◌^◌, leb, ℤ, pos, nat_abs, ◌+ℤ◌}
use Rattle.replay.specs.declared.sum.Sums.{Sums}

abbrev pub prime : ℕ
prime = 2147483647

-- a word + 2^61, or 0 where it is not from −2^61 to 2^61
unfoldable pub shifted : ℤ → ℕ
shifted w = cond (leb (nat_abs w) (2 ^ 61)) (nat_abs (w +ℤ pos (2 ^ 61))) 0

abbrev pub sums : ℕ → ℕ → Sums
sums a b = record { a = a; b = b }

-- both sums with one more term
unfoldable pub with_part : Sums → ℕ → Sums
with_part s v = sums ((s.a % prime * 1103515245 + v % 4294967296) % prime) ((s.b % prime * 362437069 + v % 4294967296) % prime)

-- the low 31 bits of a word, then the others
unfoldable pub with_word : Sums → ℤ → Sums
with_word s w = with_part (with_part s (shifted w % 2147483648)) (shifted w / 2147483648)

abbrev pub joined : Sums → ℕ
joined s = s.a % prime * 2147483648 + s.b % prime

abbrev pub checksum_of : List ℤ → ℕ
checksum_of l = joined (fold with_word (sums 0 0) l)
