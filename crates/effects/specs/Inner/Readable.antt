-- What the effects' inner calls know of the channel and its records, and of the result.
use Rattle.std.specs.Prelude.{◌≡◌, true, List, ℕ, ◌+◌, ◌<◌, ◌≤◌, length, ℤ, pos, nat_abs}
use Rattle.channel.specs.Layout.{channels, header_size, record_size, record_at, word, dim_at, count_at}
use Rattle.channel.specs.WellFormed.{block_ok, well_formed}
use Rattle.effects.specs.Effects.{effects_size, sums_fit}

-- a dimension
pub record Dim (d : ℕ) : Type 0 where
  pub some : 1 ≤ d
  pub small : d ≤ 16

-- an index of a chain of records of dimension d that lie in a slice of 64-bit words: 0, or one from the first record on
pub record Linked (d : ℕ) (z : ℤ) : Type 0 where
  pub dim : Dim d
  pub index : z ≡ pos (nat_abs z)
  pub from : (z ≡ pos 0 → ⊥) → header_size ≤ nat_abs z

-- a record of a block of dimension d at `at`, in its shared form
pub record Readable (l : List ℤ) (at d : ℕ) : Type 0 where
  pub dim : Dim d
  pub inside : at + record_size (channels d) ≤ length l
  pub formed : block_ok (channels d) l at ≡ true
  pub next : Linked d (word l at)

-- n such records, end to end
pub record Records (l : List ℤ) (d n : ℕ) : Type 0 where
  pub dim : Dim d
  pub inside : record_at (channels d) n ≤ length l
  pub each : (j : ℕ) → j < n → Readable l (record_at (channels d) j) d

-- a channel of dimension d with n blocks, and a result, that the call accepts
pub record Ready (l res : List ℤ) (d n : ℕ) : Type 0 where
  pub form : well_formed l ≡ true
  pub room : effects_size l ≤ length res
  pub fit : sums_fit l (dim_at l) (count_at l) ≡ true
  pub dim : d ≡ dim_at l
  pub count : n ≡ count_at l
