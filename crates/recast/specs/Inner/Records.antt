-- What is known of the records that are read, and of the indices that are taken to another form.
use Rattle.std.specs.Prelude.{◌≡◌, true, List, ℕ, ◌-◌, ◌/◌, ◌^◌, ◌<◌, ◌≤◌, length, ℤ, pos, nat_abs}
use Rattle.channel.specs.Layout.{Form, header_size, record_size, record_at, word, count_at}
use Rattle.channel.specs.WellFormed.{block_ok, well_formed_in}
use Rattle.recast.specs.Words.{size_in}

-- an index in F, 0 or one from the first record on, that matches a 64-bit index in G
pub record Linked (F G : Form) (z : ℤ) : Type 0 where
  pub index : z ≡ pos (nat_abs z)
  pub start : (z ≡ pos 0 → ⊥) → header_size ≤ nat_abs z
  pub small : record_at G ((nat_abs z - header_size) / record_size F) < 2 ^ 63

-- n records of the form F, end to end, with indices that match those of G
pub record Records (F G : Form) (l : List ℤ) (n : ℕ) : Type 0 where
  pub inside : record_at F n ≤ length l
  pub block : (j : ℕ) → j < n → block_ok F l (record_at F j) ≡ true
  pub next : (j : ℕ) → j < n → Linked F G (word l (record_at F j))

-- well-formed words of n records in the form F, and a result with room for them in G
pub record Ready (F G : Form) (l : List ℤ) (n : ℕ) (res : List ℤ) : Type 0 where
  pub right : well_formed_in F l ≡ true
  pub count : n ≡ count_at l
  pub room : size_in G l ≤ length res
