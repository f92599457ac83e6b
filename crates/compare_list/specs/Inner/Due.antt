-- A list under way.
use Rattle.std.specs.Prelude.{◌≡◌, true, List, ℕ, ◌*◌, ◌≤◌, ℤ, is_ok}
use Rattle.pair_list.specs.Pairs.{framing}
use Rattle.work_list.specs.Inner.Weighing.{Blank}
use Rattle.compare_list.specs.Words.{answer_size, scalars_size}

-- the buffers are zero
pub record Blanks (r s w : List ℤ) : Type 0 where
  pub left : Blank r
  pub right : Blank s
  pub work : Blank w

-- all pairs are there, and the answers have places
pub record Listed (count : ℕ) (ws bs : List ℕ) (answers scalars : ℕ) (r s w : List ℤ) : Type 0 where
  pub pairs : is_ok (framing ws bs count) ≡ true
  pub answer_room : count * answer_size ≤ answers
  pub scalar_room : count * scalars_size ≤ scalars
  pub blanks : Blanks r s w
