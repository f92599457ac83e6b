-- A text of decimal numbers: 1 to 10 digits each, parted by one space or newline, with at most one newline at the end.
use Rattle.std.specs.Prelude.{cond, List, [], ◌∷◌, ℕ, ◌-◌, eqb, length, get_or, take}
use Prim.Native.Char.{code}
use Rattle.text.specs.Decimal.{is_blank}

abbrev pub max_bytes : ℕ
max_bytes = 2048

-- the text without the newline at its end
unfoldable pub body_length : List ℕ → ℕ
body_length t = cond (eqb (get_or t (length t - 1) 0) (code "\n")) (length t - 1) (length t)

abbrev pub body : List ℕ → List ℕ
body t = take (body_length t) t

-- what stands before, between and after the blanks
abbrev pub onto : ℕ → List (List ℕ) → List (List ℕ)
onto b [] = (b ∷ []) ∷ []
onto b (p ∷ ps) = (b ∷ p) ∷ ps

unfoldable pub pieces : List ℕ → List (List ℕ)
pieces [] = [] ∷ []
pieces (b ∷ bs) = cond (is_blank b) ([] ∷ pieces bs) (onto b (pieces bs))
