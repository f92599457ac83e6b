-- A schedule of a list, by a table from new places to old ones: a permutation that keeps the order of every two elements that share.
use Rattle.std.specs.Prelude.{◌≡◌, ◌≢◌, Bool, true, List, ℕ, ◌<◌, length, get_or}

-- place i of ys holds what stood at place table[i] of xs; d is what a place past the end reads
pub record Schedule {A : Type 0} (share : A → A → Bool) (d : A) (xs ys : List A) (table : List ℕ) : Type 0 where
  pub long : length ys ≡ length xs
  pub wide : length table ≡ length xs
  pub below : (i : ℕ) → i < length table → get_or table i 0 < length xs
  pub once : (i j : ℕ) → i < j → j < length table → get_or table i 0 ≢ get_or table j 0
  pub moved : (i : ℕ) → i < length table → get_or ys i d ≡ get_or xs (get_or table i 0) d
  pub kept : (i j : ℕ) → i < j → j < length table → share (get_or ys i d) (get_or ys j d) ≡ true → get_or table i 0 < get_or table j 0
