-- A side of a turn: the words of its record from its first on, where it has a block of the store.
use Rattle.std.specs.Prelude.{Bool, true, false, ◌&&◌, List, ℕ, ◌+◌, ◌*◌, leb, length, ℤ, Option, Some, None}
use Rattle.algebra.specs.Words.{eqℤ, up_to}
use Rattle.exact.specs.Exact.{Exact, exact, max_exponent}
use Rattle.compare.specs.Compare.{Both}
use Rattle.channel.specs.Layout.{channels, record_head, exponent_place, entry_size, word, dim_at, entry_at}

abbrev pub Side : Type 0
Side = Option (List ℤ)

-- n entries can be read, if there is a block
abbrev pub holds : ℕ → Side → Bool
holds n None = true
holds n (Some l) = leb (record_head + n * entry_size false) (length l) && up_to max_exponent (word l exponent_place)

-- entry k, or zero where there is no block
abbrev pub side_of : Side → ℕ → Exact
side_of None k = exact.𝟘
side_of (Some l) k = entry_at (channels (dim_at l)) l 0 k

-- both sides have a block, and both blocks one exponent
abbrev pub both_alike : Side → Side → Bool
both_alike (Some l) (Some r) = eqℤ (word l exponent_place) (word r exponent_place)
both_alike (Some l) None = false
both_alike None r = false

-- the blocks of one store, by their sides
abbrev pub blocks_of : ℕ → Side → Side → Both
blocks_of s l r = record { store = s; left = side_of l; right = side_of r }
