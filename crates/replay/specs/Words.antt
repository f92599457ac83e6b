-- Words read from a text into lent slices, and the contents that lent words have before a call.
use Rattle.std.specs.Prelude.{List, [], ◌∷◌, ℕ, zero, suc, ◌+◌, ◌%◌, min, length, take, set, replicate, ℤ, pos}
use Rattle.algebra.specs.Words.{fill_words}
use Rattle.replay.specs.Numerals.{word_at, word_no}

-- each word its place mod 997, plus 1
abbrev pub marked : List ℤ → List ℤ
marked l = fill_words l 0 (length l) (λ (i : ℕ). pos (i % 997 + 1))

-- what was read into a slice, and where the next number begins
pub record Filled (A : Type 0) : Type 0 where
  pub words : List A
  pub next : ℕ

abbrev pub filled : {A : Type 0} → List A → ℕ → Filled A
filled l next = record { words = l; next = next }

-- ---- words at given places
-- n places, each with its word, from `at` on; a place behind the end is passed over
unfoldable pub placed : List ℕ → ℕ → ℕ → List ℤ → Filled ℤ
placed t zero at l = filled l at
placed t (suc n) at l = placed t n (word_no t at 1).next (set l (word_no t at 0).size (word_no t at 1).value)

-- a length, and a count of words that are not 0: all places of the room, the others 0
abbrev pub all_placed : List ℕ → ℕ → ℕ → Filled ℤ
all_placed t at room = placed t (word_no t at 1).size (word_no t at 1).next (replicate room (pos 0))

-- of these so many from the start on as the length says, or as there are
abbrev pub placed_at : List ℕ → ℕ → ℕ → Filled ℤ
placed_at t at room = let all = all_placed t at room in filled (take (min (word_no t at 0).size room) all.words) all.next

-- ---- numbers one after the other, of each of which `low` keeps what fits
module _ {A : Type 0} (low : ℕ → A) (t : List ℕ) where
  -- n numbers, from `at` on
  unfoldable pub numbers : ℕ → ℕ → Filled A
  numbers zero at = filled [] at
  numbers (suc n) at = let others = numbers n (word_at t at).next in filled (low (word_at t at).size ∷ others.words) others.next

  -- a count, and as many numbers as there is room for
  abbrev pub numbers_at : ℕ → ℕ → Filled A
  numbers_at at room = numbers (min (word_at t at).size room) (word_at t at).next
