-- A block of two rows, 1/2, i/4, −i/4 and 1, in three forms; and words that are not well formed.
use Rattle.std.specs.Prelude.{◌≡◌, true, false, List, [], ◌∷◌, ℕ, ◌-◌, get_or, ℤ, pos, negsuc}
use Rattle.algebra.specs.Dyadic.{frac}
use Rattle.exact.specs.Exact.{Exact, number, exact}
use Rattle.channel.specs.Layout.{Block, form, words}
use Rattle.channel.specs.WellFormed.{well_formed_in}
use Rattle.channel.specs.Recast.{recast}

abbrev pub numbers : List Exact
numbers =
    frac (number (pos 1) (pos 0) (pos 0) (pos 0)) 1
    ∷ frac (number (pos 0) (pos 0) (pos 1) (pos 0)) 2
    ∷ frac (number (pos 0) (pos 0) (negsuc 0) (pos 0)) 2
    ∷ frac (number (pos 1) (pos 0) (pos 0) (pos 0)) 0
    ∷ []

-- two stores of one bit, 1 before 0
abbrev pub example : ℕ → Block
example j = record { store = 1 - j; entry = λ (k : ℕ). get_or numbers k exact.𝟘 }

abbrev pub full : List ℤ
full = pos 2 ∷ pos 1 ∷ pos 2 ∷ pos 24
    ∷ pos 0 ∷ pos 1 ∷ pos 0 ∷ pos 2 ∷ pos 2 ∷ pos 0 ∷ pos 0 ∷ pos 0 ∷ pos 0 ∷ pos 0 ∷ pos 1 ∷ pos 0 ∷ pos 0 ∷ pos 0 ∷ negsuc 0 ∷ pos 0 ∷ pos 4 ∷ pos 0 ∷ pos 0 ∷ pos 0
    ∷ pos 4 ∷ pos 0 ∷ pos 0 ∷ pos 2 ∷ pos 2 ∷ pos 0 ∷ pos 0 ∷ pos 0 ∷ pos 0 ∷ pos 0 ∷ pos 1 ∷ pos 0 ∷ pos 0 ∷ pos 0 ∷ negsuc 0 ∷ pos 0 ∷ pos 4 ∷ pos 0 ∷ pos 0 ∷ pos 0 ∷ []

abbrev pub half : List ℤ
half = pos 2 ∷ pos 1 ∷ pos 2 ∷ pos 20
    ∷ pos 0 ∷ pos 1 ∷ pos 0 ∷ pos 2 ∷ pos 2 ∷ pos 0 ∷ pos 0 ∷ pos 0 ∷ pos 0 ∷ pos 0 ∷ pos 1 ∷ pos 0 ∷ pos 4 ∷ pos 0 ∷ pos 0 ∷ pos 0
    ∷ pos 4 ∷ pos 0 ∷ pos 0 ∷ pos 2 ∷ pos 2 ∷ pos 0 ∷ pos 0 ∷ pos 0 ∷ pos 0 ∷ pos 0 ∷ pos 1 ∷ pos 0 ∷ pos 4 ∷ pos 0 ∷ pos 0 ∷ pos 0 ∷ []

abbrev pub plain : List ℤ
plain = pos 2 ∷ pos 1 ∷ pos 2 ∷ pos 16
    ∷ pos 0 ∷ pos 1 ∷ pos 0 ∷ pos 2 ∷ pos 2 ∷ pos 0 ∷ pos 0 ∷ pos 1 ∷ pos 0 ∷ negsuc 0 ∷ pos 4 ∷ pos 0
    ∷ pos 4 ∷ pos 0 ∷ pos 0 ∷ pos 2 ∷ pos 2 ∷ pos 0 ∷ pos 0 ∷ pos 1 ∷ pos 0 ∷ negsuc 0 ∷ pos 4 ∷ pos 0 ∷ []

-- one number over 2^e
abbrev pub alone : ℤ → ℤ → ℤ → List ℤ
alone e a b = pos 1 ∷ pos 0 ∷ pos 1 ∷ pos 4 ∷ pos 0 ∷ pos 0 ∷ pos 0 ∷ e ∷ a ∷ pos 0 ∷ b ∷ pos 0 ∷ []

pub record Examples : Type 0 where
  pub in_full : words (form 2 false false) 2 1 2 example ≡ full
  pub in_half : words (form 2 true false) 2 1 2 example ≡ half
  pub in_plain : words (form 2 false true) 2 1 2 example ≡ plain
  pub right : well_formed_in (form 2 false false) full ≡ true
  pub packs : recast (form 2 false false) (form 2 true false) full ≡ half
  pub unpacks : recast (form 2 true false) (form 2 false false) half ≡ full
  -- 3/2; 2/2, which is not reduced; the exponent −1; a diagonal i
  pub odd : well_formed_in (form 1 false false) (alone (pos 1) (pos 3) (pos 0)) ≡ true
  pub even : well_formed_in (form 1 false false) (alone (pos 1) (pos 2) (pos 0)) ≡ false
  pub negative : well_formed_in (form 1 false false) (alone (negsuc 0) (pos 3) (pos 0)) ≡ false
  pub diagonal : well_formed_in (form 1 true false) (alone (pos 0) (pos 0) (pos 1)) ≡ false
