-- How a number of a text is read.
use Rattle.std.specs.Prelude.{Bool, true, false, cond, List, [], ◌∷◌, ℕ, zero, suc, ◌+◌, ◌-◌, ◌%◌, ◌^◌, eqb, ltb, drop, ℤ, pos, neg_ℤ}
use Prim.Native.Char.{code}
use Rattle.text.specs.Decimal.{is_blank, is_digit, digit}
use Rattle.text.specs.Inner.Number.{max_tenth}
use Rattle.replay.specs.declared.numeral.Digits.{Digits}
use Rattle.replay.specs.declared.numeral.Word.{Word}

abbrev pub digits : ℕ → Bool → Digits
digits size negative = record { size = size; negative = negative }

-- one more byte: a minus sign, a digit that leaves the size in 64 bits, or what is passed over
unfoldable pub with_byte : Digits → ℕ → Digits
with_byte d b = cond (eqb b (code "-")) (digits d.size true) (cond (is_digit b) (cond (ltb max_tenth d.size) d (digits (digit d.size b) d.negative)) d)

-- as a signed word, the nearest where it does not fit
unfoldable pub signed : Digits → ℤ
signed d = cond (ltb (2 ^ 63 - 1) d.size) (cond d.negative (neg_ℤ (pos (2 ^ 63))) (pos (2 ^ 63 - 1))) (cond d.negative (neg_ℤ (pos d.size)) (pos d.size))

abbrev pub word_of : Digits → ℕ → Word
word_of d next = record { value = signed d; size = d.size; next = next }

-- a number read so far, then the bytes of the text from `at` on
unfoldable pub word_from : Digits → ℕ → List ℕ → Word
word_from d at [] = word_of d at
word_from d at (b ∷ bs) = cond (is_blank b) (word_of d (at + 1)) (word_from (with_byte d b) (at + 1) bs)

-- the number that begins at `at`
unfoldable pub word_at : List ℕ → ℕ → Word
word_at t at = word_from (digits 0 false) at (drop at t)

-- number k of those that begin at `at`, from 0
abbrev pub word_no : List ℕ → ℕ → ℕ → Word
word_no t at zero = word_at t at
word_no t at (suc k) = word_at t (word_no t at k).next

-- what a byte and a 32-bit word keep of a number
abbrev pub low_byte : ℕ → ℕ
low_byte n = n % 256

abbrev pub low_word : ℕ → ℕ
low_word n = n % 4294967296
