-- The listing of a channel, and the line of a refusal.
use Rattle.std.specs.Prelude.{cond, List, [], ◌∷◌, ◌++◌, ℕ, zero, suc, ◌*◌, ◌/◌, ◌%◌, ℤ, pos}
use Rattle.algebra.specs.Lists.{concat_map}
use Rattle.exact.specs.Exact.{Exact, is_zero}
use Rattle.cells.specs.Cells.{cell_words}
use Rattle.answers.specs.States.{store_bits}
use Rattle.channel.specs.Layout.{Block, side, dim_at, bits_at, count_at, read_back}
use Rattle.channel.specs.WellFormed.{well_formed}
use Rattle.text.specs.Ascii.{ascii}
use Rattle.text.specs.Decimal.{decimal, signed}

abbrev pub newline : List ℕ
newline = ascii "\n"

-- a space, then a number
abbrev pub spaced : ℤ → List ℕ
spaced z = ascii " " ++ signed z

abbrev pub first_line : ℕ → ℕ → ℕ → List ℕ
first_line d m n = ascii "dim" ++ spaced (pos d) ++ ascii " cbits" ++ spaced (pos m) ++ ascii " blocks" ++ spaced (pos n) ++ newline

abbrev pub store_line : ℕ → ℕ → List ℕ
store_line m s = ascii "store " ++ store_bits m s ++ newline

-- row, column, n0 to n3 and e; nothing for an entry that is zero
abbrev pub entry_line : ℕ → ℕ → Exact → List ℕ
entry_line r c x = cond (is_zero x.num) [] (decimal r ++ concat_map spaced (pos c ∷ cell_words x) ++ newline)

-- the lines of the first n entries of w to a row
unfoldable pub entry_lines : ℕ → ℕ → (ℕ → Exact) → List ℕ
entry_lines w zero entry = []
entry_lines w (suc n) entry = entry_lines w n entry ++ entry_line (n / w) (n % w) (entry n)

abbrev pub block_lines : ℕ → ℕ → Block → List ℕ
block_lines m w b = store_line m b.store ++ entry_lines w (w * w) b.entry

-- the blocks in the order of the chain
abbrev pub listing : List ℤ → List ℕ
listing l = first_line (dim_at l) (bits_at l) (count_at l) ++ concat_map (block_lines (bits_at l) (side (dim_at l))) (read_back l)

-- nothing is listed of words that are no channel
abbrev pub listing_of : List ℤ → List ℕ
listing_of l = cond (well_formed l) (listing l) []

-- a refusal: its number and its index
abbrev pub refusal_line : ℕ → ℕ → List ℕ
refusal_line n i = ascii "refused" ++ spaced (pos n) ++ spaced (pos i) ++ newline

-- a text that is no input
abbrev pub input_line : List ℕ
input_line = ascii "refused input\n"
