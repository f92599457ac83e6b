-- Words: tests of them, and words written into a list, block after block.
use Rattle.std.specs.Prelude.{Bool, false, List, [], ◌∷◌, ◌++◌, ℕ, zero, suc, ◌+◌, ◌*◌, eqb, leb, ℤ, pos, negsuc}
use Rattle.std.proofs.lemmas.List.Edits.{sets}

abbrev pub eqℤ : ℤ → ℤ → Bool
eqℤ (pos a) (pos b) = eqb a b
eqℤ (pos a) (negsuc b) = false
eqℤ (negsuc a) (pos b) = false
eqℤ (negsuc a) (negsuc b) = eqb a b

-- a number from 0 to n
abbrev pub up_to : ℕ → ℤ → Bool
up_to n (pos m) = leb m n
up_to n (negsuc m) = false

-- n blocks f 0, f 1, .., each at most s words long, written from `at` on, s words apart
unfoldable pub blocks : ℕ → List ℤ → ℕ → ℕ → (ℕ → List ℤ) → List ℤ
blocks s l at zero f = l
blocks s l at (suc n) f = sets (blocks s l at n f) (at + n * s) (f n)

-- n words written from `at` on
abbrev pub fill_words : List ℤ → ℕ → ℕ → (ℕ → ℤ) → List ℤ
fill_words l at n f = blocks 1 l at n (λ (i : ℕ). f i ∷ [])

-- the blocks f 0, f 1, .., f (n − 1), end to end
unfoldable pub joined : ℕ → (ℕ → List ℤ) → List ℤ
joined zero f = []
joined (suc n) f = joined n f ++ f n

-- the number with these bits, the lowest first
abbrev pub from_bits : List ℕ → ℕ
from_bits [] = 0
from_bits (b ∷ bs) = b + 2 * from_bits bs
