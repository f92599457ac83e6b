-- The walk along two chains in step, as the code makes it: which side has the next store, and the blocks there.
use Rattle.std.specs.Prelude.{◌≡◌, true, cond, List, ℕ, zero, suc, ◌-◌, ◌<◌, eqb, ℤ, nat_abs, Option, Some, None, drop}
use Rattle.std.specs.Option.{option_map}
use Rattle.exact.specs.Exact.{Exact, exact}
use Rattle.compare.specs.declared.Turn.{Turn}
use Rattle.compare.specs.declared.Cursor.{Cursor}
use Rattle.store.specs.Store.{before}
use Rattle.channel.specs.Layout.{channels, side, dim_at, count_at, word, entry_at, store_at}
use Rattle.channel.specs.WellFormed.{well_formed}
use Rattle.channel.specs.Inner.Shapes.{Onward}
use Rattle.compare.specs.Inner.Sides.{Side}
use Rattle.compare.specs.Compare.{Both}

-- a side that takes part has the block of its record; else its block is missing
abbrev pub side_at : List ℤ → Option Cursor → ℕ → Exact
side_at l None k = exact.𝟘
side_at l (Some c) k = entry_at (channels (dim_at l)) l c.at k

-- the words of the record from its first on
abbrev pub taken_of : List ℤ → Option Cursor → Side
taken_of l side = option_map (λ (c : Cursor). drop c.at l) side

abbrev pub both_at : List ℤ → List ℤ → Turn → Both
both_at l r t = record { store = t.store; left = side_at l t.left; right = side_at r t.right }

abbrev pub on_left : Cursor → Turn
on_left a = record { store = a.store; left = Some a; right = None }

abbrev pub on_right : Cursor → Turn
on_right b = record { store = b.store; left = None; right = Some b }

abbrev pub on_both : Cursor → Cursor → Turn
on_both a b = record { store = a.store; left = Some a; right = Some b }

-- none where both chains have ended
abbrev pub turn_of : Option Cursor → Option Cursor → Option Turn
turn_of None None = None
turn_of None (Some b) = Some (on_right b)
turn_of (Some a) None = Some (on_left a)
turn_of (Some a) (Some b) = Some (cond (eqb a.store b.store) (on_both a b) (cond (before a.store b.store) (on_left a) (on_right b)))

-- n records are left, the next of them at `at`
abbrev pub cursor_at : List ℤ → ℕ → ℕ → Option Cursor
cursor_at l zero at = None
cursor_at l (suc n) at = Some (record { at = at; left = suc n; store = store_at l at })

-- the record after that of a side that takes part
abbrev pub advance : List ℤ → Option Cursor → Option Cursor → Option Cursor
advance l None c = c
advance l (Some t) c = cursor_at l (t.left - 1) (nat_abs (word l t.at))

-- a record on a well-formed chain
pub record On (l : List ℤ) (c : Cursor) : Type 0 where
  pub walk : Onward l c.left c.at
  pub some : 0 < c.left
  pub store : c.store ≡ store_at l c.at

-- two well-formed channels of one dimension, with their block counts and the side of their blocks
pub record Matched (l r : List ℤ) (m n w : ℕ) : Type 0 where
  pub left : well_formed l ≡ true
  pub right : well_formed r ≡ true
  pub left_count : m ≡ count_at l
  pub right_count : n ≡ count_at r
  pub left_side : w ≡ side (dim_at l)
  pub right_side : w ≡ side (dim_at r)
