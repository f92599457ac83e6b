-- What a list must hold for the code to read a store from it.
use Rattle.std.specs.Prelude.{◌≡◌, true, List, ℕ, ◌+◌, ◌<◌, ◌≤◌, length, get_or, ℤ, pos}
use Rattle.algebra.specs.Lists.{All}
use Rattle.algebra.specs.Words.{up_to}
use Rattle.store.specs.Store.{max_word}

-- each is 0 or 1
abbrev pub Bits : List ℕ → Type 0
Bits = All (λ (b : ℕ). b < 2)

-- two words of a store from `at` on
pub record StoreAt (l : List ℤ) (at : ℕ) : Type 0 where
  pub room : at + 2 ≤ length l
  pub low : up_to max_word (get_or l at (pos 0)) ≡ true
  pub high : up_to max_word (get_or l (at + 1) (pos 0)) ≡ true
