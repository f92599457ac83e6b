-- What is claimed of the comparison of two channels.
use Rattle.std.specs.Prelude.{◌≡◌, Bool, true, ◌&&◌, ◌||◌, List, ℕ, ◌+◌, ◌*◌, ◌<◌, eqb, ltb, ℤ, Ok, is_ok}
use Rattle.std.specs.Result.{result_map_both}
use Rattle.exact.specs.Exact.{Exact}
use Rattle.scalar.specs.Calls.{scalar_of}
use Rattle.verdict.specs.declared.Refusal.{Refusal}
use Rattle.compare.specs.declared.Comparison.{Comparison}
use Rattle.compare.specs.declared.Comparison.TheVariants.{Same, Dimensions, Differs}
use Rattle.compare.specs.declared.Difference.{Difference}
use Rattle.store.specs.Store.{before}
use Rattle.channel.specs.Layout.{side, dim_at, bits_at, read_back}
use Rattle.channel.specs.WellFormed.{form_verdict}
use Rattle.channel.specs.Claims.{look, Sound, stores_of}
use Rattle.compare.specs.Compare.{compare_of}

-- entry k of the block of the store s in a channel; a missing block is zero
abbrev pub entry_of : List ℤ → ℕ → ℕ → Exact
entry_of l = look (read_back l)

-- two well-formed channels without a block of zeros, of one dimension and one bit count
pub record Comparable (l r : List ℤ) : Type 0 where
  pub left : Sound l
  pub right : Sound r
  pub dims : dim_at l ≡ dim_at r
  pub bits : bits_at l ≡ bits_at r

-- the entries of a block of l
abbrev pub size : List ℤ → ℕ
size l = side (dim_at l) * side (dim_at l)

-- all entries of all stores are equal
abbrev pub Agree : List ℤ → List ℤ → Type 0
Agree l r = (s k : ℕ) → k < size l → entry_of l s k ≡ entry_of r s k

-- "same" exactly where they are
abbrev pub SameExactly : Type 0
SameExactly = (l r : List ℤ) → Comparable l r → (compare_of l r ≡ Ok Same → Agree l r) × (Agree l r → compare_of l r ≡ Ok Same)

-- the same dimensions and bit counts, the same stores along the chain, and entries equal at every row and column
pub record Alike (l r : List ℤ) : Type 0 where
  pub dims : dim_at l ≡ dim_at r
  pub bits : bits_at l ≡ bits_at r
  pub stores : stores_of (read_back l) ≡ stores_of (read_back r)
  pub entries : Agree l r

-- so "same" says that nothing that is read back differs
abbrev pub AlikeExactly : Type 0
AlikeExactly = (l r : List ℤ) → Sound l → Sound r → (compare_of l r ≡ Ok Same → Alike l r) × (Alike l r → compare_of l r ≡ Ok Same)

abbrev pub swapped : Difference → Difference
swapped d = record { place = d.place; left = d.right; right = d.left }

abbrev pub turned : Comparison → Comparison
turned Same = Same
turned Dimensions = Dimensions
turned (Differs d) = Differs (swapped d)

-- the other way round, unless both are refused: then the left one's refusal is told
abbrev pub Symmetric : Type 0
Symmetric = (l r : List ℤ) → (is_ok (form_verdict l) || is_ok (form_verdict r)) ≡ true → compare_of r l ≡ result_map_both turned (λ (r : Refusal). r) (compare_of l r)

-- entry j of the store s comes before entry k of the store t
abbrev pub earlier : ℕ → ℕ → ℕ → ℕ → Bool
earlier s j t k = before s t || (eqb s t && ltb j k)

-- d has the first place at which l and r differ, and its two entries
pub record FirstAt (l r : List ℤ) (d : Difference) : Type 0 where
  pub row : d.place.row < side (dim_at l)
  pub col : d.place.col < side (dim_at l)
  pub left : d.left ≡ scalar_of (entry_of l d.place.store (d.place.row * side (dim_at l) + d.place.col))
  pub right : d.right ≡ scalar_of (entry_of r d.place.store (d.place.row * side (dim_at l) + d.place.col))
  pub unequal : entry_of l d.place.store (d.place.row * side (dim_at l) + d.place.col) ≡ entry_of r d.place.store (d.place.row * side (dim_at l) + d.place.col) → ⊥
  pub agree : (s k : ℕ) → k < size l → earlier s k d.place.store (d.place.row * side (dim_at l) + d.place.col) ≡ true → entry_of l s k ≡ entry_of r s k

abbrev pub FirstEntry : Type 0
FirstEntry = (l r : List ℤ) → Comparable l r → (d : Difference) → compare_of l r ≡ Ok (Differs d) → FirstAt l r d
