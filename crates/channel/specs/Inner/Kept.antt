-- The entries that a form keeps.
use Rattle.std.specs.Prelude.{ℕ, ◌<◌, ◌≤◌}
use Rattle.channel.specs.Layout.{Form, from}

-- an entry (r, c) that the form F keeps
pub record Kept (F : Form) (r c : ℕ) : Type 0 where
  pub row : r < F.side
  pub col : c < F.side
  pub after : from F r ≤ c
