-- What compare replies and writes: a number, the place of an entry, and two scalars as words; and what a look-up replies.
use Rattle.std.specs.Prelude.{List, [], ◌∷◌, ◌++◌, ℕ, ℤ, Option, Some, None, Result, Ok, Err}
use Rattle.exact.specs.Exact.{exact}
use Rattle.scalar.specs.declared.Scalar.{Scalar}
use Rattle.scalar.specs.Calls.{value, scalar_of}
use Rattle.cells.specs.Cells.{cell_words}
use Rattle.verdict.specs.declared.Refusal.{Refusal}
use Rattle.verdict.specs.Verdict.{refusal_number}
use Rattle.compare.specs.declared.Comparison.{Comparison}
use Rattle.compare.specs.declared.Comparison.TheVariants.{Same, Dimensions, Differs}
use Rattle.compare.specs.declared.Difference.{Difference}
use Rattle.channel.specs.declared.lookup.Span.{Span}
use Rattle.c_scalars.specs.Replies.{same, dimensions, entry}

abbrev pub finding_number : Result Comparison Refusal → ℕ
finding_number (Ok Same) = same
finding_number (Ok Dimensions) = dimensions
finding_number (Ok (Differs d)) = entry
finding_number (Err r) = refusal_number r

-- the entry that differs, if one does
abbrev pub difference : Result Comparison Refusal → Option Difference
difference (Ok Same) = None
difference (Ok Dimensions) = None
difference (Ok (Differs d)) = Some d
difference (Err r) = None

-- store, row and column; zero where no entry differs
abbrev pub place_words : Option Difference → List ℕ
place_words (Some d) = d.place.store ∷ d.place.row ∷ d.place.col ∷ []
place_words None = 0 ∷ 0 ∷ 0 ∷ []

-- the left scalar, then the right one
abbrev pub two_scalars : Scalar → Scalar → List ℤ
two_scalars x y = cell_words (value x) ++ cell_words (value y)

-- of the entry that differs; zero where none does
abbrev pub scalar_words : Option Difference → List ℤ
scalar_words (Some d) = two_scalars d.left d.right
scalar_words None = two_scalars (scalar_of exact.𝟘) (scalar_of exact.𝟘)

-- where a part starts, or 0
abbrev pub start_of : Option Span → ℕ
start_of (Some s) = s.start
start_of None = 0
