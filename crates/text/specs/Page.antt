-- Bytes put one after the other into lent room.
use Rattle.std.specs.Prelude.{cond, ℕ, ◌+◌, ltb, length, set}
use mathlib.Core.List.{List, foldl}

-- the room, and where the next byte goes
pub record Page : Type 0 where
  pub room : List ℕ
  pub at : ℕ

abbrev pub page : List ℕ → ℕ → Page
page room at = record { room = room; at = at }

-- one byte, if there is room for it
unfoldable pub put : Page → ℕ → Page
put p b = cond (ltb p.at (length p.room)) (page (set p.room p.at b) (p.at + 1)) p

unfoldable pub write : Page → List ℕ → Page
write p bs = foldl put p bs
