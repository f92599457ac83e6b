-- A number as five words: n0 to n3, then e; and many of them, one after the other.
use Rattle.std.specs.Prelude.{Bool, ◌&&◌, List, [], ◌∷◌, ℕ, ◌+◌, get_or, ℤ, pos, nat_abs}
use Rattle.algebra.specs.Dyadic.{frac}
use Rattle.algebra.specs.Words.{up_to, blocks, joined}
use Rattle.exact.specs.Exact.{Exact, number, max_exponent, well_formed}

abbrev pub cell_size : ℕ
cell_size = 5

abbrev pub cell_words : Exact → List ℤ
cell_words x = x.num.re.re ∷ x.num.re.im ∷ x.num.im.re ∷ x.num.im.im ∷ pos x.exp ∷ []

-- the number in the five words from `at` on
abbrev pub cell_at : List ℤ → ℕ → Exact
cell_at l at = frac (number (get_or l at (pos 0)) (get_or l (at + 1) (pos 0)) (get_or l (at + 2) (pos 0)) (get_or l (at + 3) (pos 0))) (nat_abs (get_or l (at + 4) (pos 0)))

-- the fifth word is an exponent
abbrev pub exponent_at : List ℤ → ℕ → Bool
exponent_at l at = up_to max_exponent (get_or l (at + 4) (pos 0))

-- the five words are a number in range and in lowest form
abbrev pub well_formed_at : List ℤ → ℕ → Bool
well_formed_at l at = exponent_at l at && well_formed (cell_at l at)

-- n numbers written from `at` on
abbrev pub fill : List ℤ → ℕ → ℕ → (ℕ → Exact) → List ℤ
fill l at n f = blocks cell_size l at n (λ (i : ℕ). cell_words (f i))

-- the words of n numbers
abbrev pub cells : ℕ → (ℕ → Exact) → List ℤ
cells n f = joined n (λ (i : ℕ). cell_words (f i))
