-- Numbers in words that share an exponent: four numerators for each, then the exponent; and their rows multiplied and added.
use Rattle.std.specs.Prelude.{◌≡◌, ◌⊎◌, Bool, true, List, [], ◌∷◌, ◌++◌, ℕ, ◌+◌, ◌*◌, ◌^◌, ◌<◌, ◌≤◌, length, get_or, ℤ, pos, nat_abs}
use Rattle.algebra.specs.Lists.{all_below}
use Rattle.algebra.specs.Words.{joined, up_to}
use Rattle.algebra.specs.Inner.Apart.{Apart}
use Rattle.exact.specs.Exact.{Number, numbers, Exact, lowest, list_of, is_zero, narrow_exponent, narrow_numerator}
use Rattle.exact.specs.Inner.Sizes.{Within}
use Rattle.channel.specs.Shared.{shared}
use Rattle.share.specs.Share.{number_in, with_numerators}

-- ---- n numbers
-- the words of n numbers in their shared form
abbrev pub held_words : ℕ → (ℕ → Exact) → List ℤ
held_words n x = joined n (λ (k : ℕ). list_of ((shared n x).num k)) ++ (pos (shared n x).exp ∷ [])

-- the exponent behind the numerators of n numbers that lie from `at` on
abbrev pub exponent_in : List ℤ → ℕ → ℕ → ℕ
exponent_in l at n = nat_abs (get_or l (at + n * 4) (pos 0))

-- number i of them, in lowest form
abbrev pub held_in : List ℤ → ℕ → ℕ → ℕ → Exact
held_in l at n i = lowest (number_in l (at + i * 4)) (exponent_in l at n)

-- all of them are zero
abbrev pub zeros : List ℤ → ℕ → ℕ → Bool
zeros l at n = all_below n (λ (i : ℕ). is_zero (number_in l (at + i * 4)))

-- factors: their coordinates lie from −1 to 1, over at most the power of a narrow number
pub record Factors (l : List ℤ) (at n : ℕ) : Type 0 where
  pub room : at + n * 4 + 1 ≤ length l
  pub exponent : up_to narrow_exponent (get_or l (at + n * 4) (pos 0)) ≡ true
  pub sizes : (i : ℕ) → i < n → Within (2 ^ exponent_in l at n) (number_in l (at + i * 4))

-- ---- rows of numerators
-- x times number c from `from` on
abbrev pub scaled_row : List ℤ → Number → ℕ → ℕ → Number
scaled_row l x from c = numbers.◌⊗◌ x (number_in l (from + c * 4))

-- x times number c from p on plus y times number c from q on
abbrev pub combined_row : List ℤ → Number → ℕ → Number → ℕ → ℕ → Number
combined_row l x p y q c = numbers.◌⊕◌ (scaled_row l x p c) (scaled_row l y q c)

-- d narrow numbers from `from` on, a narrow number x to multiply them by, and, where they lie or apart from them, a place for d numbers from `to` on
pub record Scaling (l : List ℤ) (x : Number) (from to d : ℕ) : Type 0 where
  pub scale : Within narrow_numerator x
  pub from_room : from + d * 4 ≤ length l
  pub factor : (c : ℕ) → c < d → Within narrow_numerator (number_in l (from + c * 4))
  pub to_room : to + d * 4 ≤ length l
  pub place : (from ≡ to) ⊎ Apart from (d * 4) to (d * 4)

-- two rows of d narrow numbers, at p and, apart from it, at q, and narrow numbers to multiply them by: x and y for the first, v and u for the second
pub record Mixing (l : List ℤ) (x y : Number) (p : ℕ) (v u : Number) (q d : ℕ) : Type 0 where
  pub own : Within narrow_numerator x
  pub other : Within narrow_numerator y
  pub own_of_second : Within narrow_numerator v
  pub other_of_second : Within narrow_numerator u
  pub room : p + d * 4 ≤ length l
  pub room_of_second : q + d * 4 ≤ length l
  pub factor : (c : ℕ) → c < d → Within narrow_numerator (number_in l (p + c * 4))
  pub factor_of_second : (c : ℕ) → c < d → Within narrow_numerator (number_in l (q + c * 4))
  pub apart : Apart p (d * 4) q (d * 4)

-- both rows, each a sum of multiples of both
abbrev pub mixed : List ℤ → Number → Number → ℕ → Number → Number → ℕ → ℕ → List ℤ
mixed l x y p v u q d = with_numerators (with_numerators l p d (combined_row l x p y q)) q d (combined_row l v q u p)
