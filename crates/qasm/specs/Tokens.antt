-- A text as tokens: words, numbers and signs, each with the position where it begins. Blanks and comments stand between tokens and mean nothing.
use Rattle.std.specs.Prelude.{Bool, true, false, cond, not, ◌&&◌, ◌||◌, List, [], ◌∷◌, ℕ, zero, suc, ◌-◌, eqb, leb, length, get_or, take}
use Prim.Native.Char.{code}
use Rattle.text.specs.Ascii.{ascii}
use Rattle.text.specs.Decimal.{is_digit, is_number}

abbrev pub same : List ℕ → List ℕ → Bool
same [] [] = true
same [] (y ∷ ys) = false
same (x ∷ xs) [] = false
same (x ∷ xs) (y ∷ ys) = eqb x y && same xs ys

-- ---- bytes
abbrev pub is_blank : ℕ → Bool
is_blank b = (eqb b (code " ") || eqb b (code "\t")) || (eqb b (code "\n") || eqb b (code "\r"))

abbrev pub is_small : ℕ → Bool
is_small b = leb (code "a") b && leb b (code "z")

abbrev pub is_capital : ℕ → Bool
is_capital b = leb (code "A") b && leb b (code "Z")

-- a letter or an underscore: a word begins with one
abbrev pub opens_word : ℕ → Bool
opens_word b = (is_small b || is_capital b) || eqb b (code "_")

abbrev pub in_word : ℕ → Bool
in_word b = opens_word b || is_digit b

-- not the newline that ends a comment
abbrev pub in_line : ℕ → Bool
in_line b = not (eqb b (code "\n"))

-- how many bytes stand before the first that fails the test
unfoldable pub run : (ℕ → Bool) → List ℕ → ℕ
run p [] = 0
run p (b ∷ bs) = cond (p b) (suc (run p bs)) 0

-- ---- what begins with the byte b, before the bytes bs
-- a comment goes to the next newline or the end
abbrev pub is_comment : ℕ → List ℕ → Bool
is_comment b bs = eqb b (code "/") && eqb (get_or bs 0 0) (code "/")

abbrev pub is_gap : ℕ → List ℕ → Bool
is_gap b bs = is_blank b || is_comment b bs

-- the signs of several bytes; any other byte outside words, numbers and gaps is a token by itself
abbrev pub arrow : List ℕ
arrow = ascii "->"

abbrev pub library : List ℕ
library = ascii "\"qelib1.inc\""

abbrev pub begins : List ℕ → List ℕ → Bool
begins s bs = same s (take (length s) bs)

abbrev pub sign_more : List ℕ → ℕ
sign_more bs = cond (begins arrow bs) (length arrow - 1) (cond (begins library bs) (length library - 1) 0)

-- how many more bytes belong to the gap or token
abbrev pub more : ℕ → List ℕ → ℕ
more b bs =
    cond (is_blank b) 0
    (cond (is_comment b bs) (run in_line bs)
    (cond (is_digit b) (run is_digit bs)
    (cond (opens_word b) (run in_word bs) (sign_more (b ∷ bs)))))

-- ---- tokens
pub record Token : Type 0 where
  pub at : ℕ
  pub bytes : List ℕ

abbrev pub token : ℕ → List ℕ → Token
token at bs = record { at = at; bytes = bs }

-- the tokens of the bytes from position `at` on, of which the first `inside` belong to what has been taken already
unfoldable pub tokens : ℕ → ℕ → List ℕ → List Token
tokens at inside [] = []
tokens at (suc inside) (b ∷ bs) = tokens (suc at) inside bs
tokens at zero (b ∷ bs) =
    let rest = tokens (suc at) (more b bs) bs in
    cond (is_gap b bs) rest (token at (b ∷ take (more b bs) bs) ∷ rest)

abbrev pub first : Token → ℕ
first t = get_or t.bytes 0 0

abbrev pub is_word : Token → Bool
is_word t = opens_word (first t)

-- a register's name begins with a small letter
abbrev pub is_name : Token → Bool
is_name t = is_small (first t)

-- a number up to 4,294,967,295, with no leading zero unless it is 0
abbrev pub is_index : Token → Bool
is_index t = is_number t.bytes && (not (eqb (first t) (code "0")) || eqb (length t.bytes) 1)
