-- Bytes put by a writer, as the contracts of the functions that write say it.
use Rattle.std.specs.Prelude.{◌≡◌, List, ℕ}
use Rattle.text.specs.declared.page.Writer.{Writer}
use Rattle.text.specs.Page.{page, write}

-- v is w after these bytes, in the same room
pub record Puts (w : Writer) (bs : List ℕ) (v : Writer) : Type 0 where
  pub same : v.room.ghost_name ≡ w.room.ghost_name
  pub is : page v.room.now v.at ≡ write (page w.room.now w.at) bs
