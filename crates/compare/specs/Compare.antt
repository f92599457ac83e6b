-- The comparison of two channels: the first unequal entry, the stores of both in rising order, then rows, then columns.
use Rattle.std.specs.Prelude.{cond, ◌&&◌, List, [], ◌∷◌, map, ℕ, zero, suc, ◌*◌, ◌/◌, ◌%◌, eqb, ℤ, Option, Some, None, Result, Ok}
use Rattle.std.specs.Option.{option_or}
use Rattle.std.specs.Result.{result_and}
use Rattle.verdict.specs.declared.Refusal.{Refusal}
use Rattle.exact.specs.Exact.{Exact, exact, equal}
use Rattle.scalar.specs.Calls.{scalar_of}
use Rattle.compare.specs.declared.Comparison.{Comparison}
use Rattle.compare.specs.declared.Comparison.TheVariants.{Same, Dimensions, Differs}
use Rattle.compare.specs.declared.Difference.{Difference}
use Rattle.store.specs.Store.{before}
use Rattle.channel.specs.Layout.{Block, side, dim_at, bits_at, read_back}
use Rattle.channel.specs.WellFormed.{form_verdict}

-- an entry that differs
abbrev pub entry : ℕ → ℕ → ℕ → Exact → Exact → Difference
entry s r c x y = record { place = record { store = s; row = r; col = c }; left = scalar_of x; right = scalar_of y }

-- ---- the blocks of both sides, store by store; a missing block is zero
pub record Both : Type 0 where
  pub store : ℕ
  pub left : ℕ → Exact
  pub right : ℕ → Exact

abbrev pub nothing : ℕ → Exact
nothing k = exact.𝟘

abbrev pub left_only : Block → Both
left_only a = record { store = a.store; left = a.entry; right = nothing }

abbrev pub right_only : Block → Both
right_only b = record { store = b.store; left = nothing; right = b.entry }

abbrev pub paired : Block → Block → Both
paired a b = record { store = a.store; left = a.entry; right = b.entry }

-- the block a among those of the right side, `rest` doing the blocks after a
abbrev pub insert : Block → (List Block → List Both) → List Block → List Both
insert a rest [] = left_only a ∷ rest []
insert a rest (b ∷ bs) =
    cond (eqb a.store b.store) (paired a b ∷ rest bs) (cond (before a.store b.store) (left_only a ∷ rest (b ∷ bs)) (right_only b ∷ insert a rest bs))

abbrev pub merge : List Block → List Block → List Both
merge [] bs = map right_only bs
merge (a ∷ more) bs = insert a (merge more) bs

-- ---- the first unequal entry
-- n entries of blocks of w columns, from entry k on
unfoldable pub scan : Both → ℕ → ℕ → ℕ → Option Difference
scan b w zero k = None
scan b w (suc n) k = cond (equal (b.left k) (b.right k)) (scan b w n (suc k)) (Some (entry b.store (k / w) (k % w) (b.left k) (b.right k)))

abbrev pub first : ℕ → List Both → Option Difference
first w [] = None
first w (b ∷ bs) = option_or (scan b w (w * w) 0) (first w bs)

-- what two channels of one dimension and one bit count answer
abbrev pub found : Option Difference → Comparison
found None = Same
found (Some d) = Differs d

-- a refusal, the left one's first, or what the comparison finds
abbrev pub compare_of : List ℤ → List ℤ → Result Comparison Refusal
compare_of l r =
    result_and (form_verdict l)
    (result_and (form_verdict r)
    (Ok (cond (eqb (dim_at l) (dim_at r) && eqb (bits_at l) (bits_at r)) (found (first (side (dim_at l)) (merge (read_back l) (read_back r)))) Dimensions)))
