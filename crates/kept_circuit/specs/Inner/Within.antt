-- Counts that are small enough to be moved.
use Rattle.std.specs.Prelude.{◌≡◌, true, List, ℕ, ◌≤◌, ◌<◌, length, ℤ}
use Rattle.algebra.specs.Words.{up_to}
use Rattle.channel.specs.Layout.{word}
use Rattle.kept_circuit.specs.Kept.{head_size}

-- each count is a number from 0 to t
pub record Within (l : List ℤ) (t : ℕ) : Type 0 where
  pub long : head_size ≤ length l
  pub small : (k : ℕ) → k < head_size → up_to t (word l k) ≡ true
