-- How far a place can be.
use Rattle.std.specs.Prelude.{ℕ, ◌≤◌}
use Rattle.answers.specs.declared.places.Place.{Place}

pub record Below (n : ℕ) (p : Place) : Type 0 where
  pub line : p.line ≤ n
  pub column : p.column ≤ n
