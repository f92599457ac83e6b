-- The words of a channel or of its effects: a header, then records end to end, chained by next indices in the order of their stores.
-- A record is next, two store words, the exponent that its block shares, then the numerators that are kept.
use Rattle.std.specs.Prelude.{Bool, true, false, cond, ◌&&◌, ◌||◌, List, [], ◌∷◌, ◌++◌, ℕ, zero, suc, ◌+◌, ◌*◌, ◌-◌, ◌/◌, ◌%◌, eqb, leb, get_or, ℤ, pos, nat_abs}
use Rattle.algebra.specs.Quadratic.{conjugate}
use Rattle.algebra.specs.Dyadic.{frac}
use Rattle.algebra.specs.Sum.{sum}
use Rattle.algebra.specs.Words.{joined}
use Rattle.store.specs.Store.{before, store_from, low_word, high_word}
use Rattle.exact.specs.Exact.{Number, number, root2, Exact, exact}
use Rattle.channel.specs.declared.forms.Parts.{Parts}
use Rattle.channel.specs.Shared.{Shared, entry, shared}

-- ---- sizes and places
-- dim, bit count, block count, index of the first block
abbrev pub header_size : ℕ
header_size = 4

-- next, store bits 0 to 31, store bits 32 to 63, exponent
abbrev pub record_head : ℕ
record_head = 4

abbrev pub exponent_place : ℕ
exponent_place = 3

-- a block of a channel of dimension d has d² rows and columns
abbrev pub side : ℕ → ℕ
side d = d * d

abbrev pub word : List ℤ → ℕ → ℤ
word l at = get_or l at (pos 0)

-- the store of the record at `at`
abbrev pub store_at : List ℤ → ℕ → ℕ
store_at l at = store_from (word l (at + 1)) (word l (at + 2))

-- ---- Choi blocks of stores
pub record Block : Type 0 where
  pub store : ℕ
  -- entry k, row · w + column
  pub entry : ℕ → Exact

-- entry (r, c) of the effect of a block of dimension d, its transposed POVM element: block entry (o·d + r, o·d + c), summed over o from 0 up
abbrev pub effect_place : ℕ → ℕ → ℕ → ℕ → ℕ
effect_place d r c o = (o * d + r) * side d + (o * d + c)

abbrev pub effect_of : ℕ → (ℕ → Exact) → ℕ → ℕ → Exact
effect_of d x r c = sum exact d (λ (o : ℕ). x (effect_place d r c o))

-- ---- which numerators are kept
pub record Form : Type 0 where
  -- rows and columns of a block
  pub side : ℕ
  -- only the entries (r, c) with r ≤ c
  pub half : Bool
  -- only n0 and n2 of an entry
  pub plain : Bool

abbrev pub form : ℕ → Bool → Bool → Form
form w a b = record { side = w; half = a; plain = b }

-- of w rows and columns, what is kept by these parts
abbrev pub form_of : ℕ → Parts → Form
form_of w f = form w f.half f.plain

-- all numerators of w rows and columns
abbrev pub full : ℕ → Form
full w = form w false false

-- the blocks and the effects of a channel of dimension d
abbrev pub channels : ℕ → Form
channels d = full (side d)

abbrev pub effects : ℕ → Form
effects d = full d

-- its Hermitian blocks, and its blocks with no √2 part
abbrev pub packed : ℕ → Form
packed d = form (side d) true false

abbrev pub plain_only : ℕ → Form
plain_only d = form (side d) false true

-- ---- the words of an entry, and the entry of the words v 0, v 1, ..
abbrev pub entry_size : Bool → ℕ
entry_size true = 2
entry_size false = 4

abbrev pub entry_words : Bool → Number → List ℤ
entry_words true z = z.re.re ∷ z.im.re ∷ []
entry_words false z = z.re.re ∷ z.re.im ∷ z.im.re ∷ z.im.im ∷ []

abbrev pub entry_from : Bool → (ℕ → ℤ) → Number
entry_from true v = number (v 0) (pos 0) (v 1) (pos 0)
entry_from false v = number (v 0) (v 1) (v 2) (v 3)

-- of w rows, row r from column r on: the entries of the first n
unfoldable pub half_rows : ℕ → ℕ → ℕ
half_rows w zero = 0
half_rows w (suc n) = half_rows w n + (w - n)

-- ---- the words of a block: row after row, entry k is (k / side, k % side)
module _ (F : Form) where
  abbrev pub entries : ℕ
  entries = F.side * F.side

  -- the first column that is kept of row r
  abbrev pub from : ℕ → ℕ
  from r = cond F.half r 0

  -- the entries that are kept of the first r rows
  abbrev pub row_start : ℕ → ℕ
  row_start r = cond F.half (half_rows F.side r) (r * F.side)

  abbrev pub block_size : ℕ
  block_size = row_start F.side * entry_size F.plain

  abbrev pub row_words : (ℕ → Number) → ℕ → List ℤ
  row_words z r = joined (F.side - from r) (λ (j : ℕ). entry_words F.plain (z (r * F.side + (from r + j))))

  abbrev pub block_words : (ℕ → Number) → List ℤ
  block_words z = joined F.side (row_words z)

  -- from the words v 0, v 1, .. of a block: the entry that is kept at place j
  abbrev pub kept_at : (ℕ → ℤ) → ℕ → Number
  kept_at v j = entry_from F.plain (λ (i : ℕ). v (j * entry_size F.plain + i))

  -- entry (r, c) of a half, if it is kept
  abbrev pub kept : (ℕ → ℤ) → ℕ → ℕ → Number
  kept v r c = kept_at v (row_start r + (c - from r))

  -- entry k; where half is kept, an entry that is not is the conjugate of (c, r)
  abbrev pub block_from : (ℕ → ℤ) → ℕ → Number
  block_from v k = let r = k / F.side in let c = k % F.side in cond F.half (cond (leb r c) (kept v r c) (conjugate root2 (kept v c r))) (kept_at v k)

  -- ---- records
  abbrev pub record_size : ℕ
  record_size = record_head + block_size

  abbrev pub record_at : ℕ → ℕ
  record_at j = header_size + j * record_size

  -- record j as an index; 0 is the end
  abbrev pub link : ℕ → ℕ
  link zero = 0
  link (suc j) = record_at j

  abbrev pub record_words : ℕ → ℕ → Shared → List ℤ
  record_words next store b = pos next ∷ low_word store ∷ high_word store ∷ pos b.exp ∷ block_words b.num

-- of the first n records, 1 more than the place of the one with the least store that passes p; 0 where none passes
abbrev pub least : ℕ → (ℕ → ℕ) → (ℕ → Bool) → ℕ
least zero st p = 0
least (suc n) st p = let r = least n st p in cond (p (st n) && (eqb r 0 || before (st n) (st (r - 1)))) (suc n) r

-- in the form F, dimension d, m bits, and n blocks in their order
module _ (F : Form) (d m n : ℕ) (block : ℕ → Block) where
  abbrev pub stores : ℕ → ℕ
  stores j = (block j).store

  abbrev pub first : ℕ
  first = link F (least n stores (λ (s : ℕ). true))

  abbrev pub next : ℕ → ℕ
  next j = link F (least n stores (before (stores j)))

  abbrev pub header : List ℤ
  header = pos d ∷ pos m ∷ pos n ∷ pos first ∷ []

  abbrev pub words : List ℤ
  words = header ++ joined n (λ (j : ℕ). record_words F (next j) (stores j) (shared (entries F) (block j).entry))

abbrev pub channel_words : ℕ → ℕ → ℕ → (ℕ → Block) → List ℤ
channel_words d = words (channels d) d

-- ---- reading back
abbrev pub dim_at : List ℤ → ℕ
dim_at l = nat_abs (word l 0)

abbrev pub bits_at : List ℤ → ℕ
bits_at l = nat_abs (word l 1)

abbrev pub count_at : List ℤ → ℕ
count_at l = nat_abs (word l 2)

-- the form that keeps these parts, of the dimension that the header says
abbrev pub form_in : Parts → List ℤ → Form
form_in f l = form_of (side (dim_at l)) f

-- the exponent of the record at `at`
abbrev pub exp_at : List ℤ → ℕ → ℕ
exp_at l at = nat_abs (word l (at + exponent_place))

module _ (F : Form) where
  abbrev pub numbers_at : List ℤ → ℕ → ℕ → Number
  numbers_at l at = block_from F (λ (i : ℕ). word l (at + record_head + i))

  abbrev pub shared_at : List ℤ → ℕ → Shared
  shared_at l at = frac (numbers_at l at) (exp_at l at)

  -- entry k of the record at `at`, in lowest form
  abbrev pub entry_at : List ℤ → ℕ → ℕ → Exact
  entry_at l at = entry (shared_at l at)

  abbrev pub block_at : List ℤ → ℕ → Block
  block_at l at = record { store = store_at l at; entry = entry_at l at }

  -- n blocks along the chain from index `at` on
  abbrev pub chain : List ℤ → ℕ → ℕ → List Block
  chain l zero at = []
  chain l (suc n) at = block_at l at ∷ chain l n (nat_abs (word l at))

  abbrev pub read_back_in : List ℤ → List Block
  read_back_in l = chain l (count_at l) (nat_abs (word l 3))

-- the blocks of a channel
abbrev pub read_back : List ℤ → List Block
read_back l = read_back_in (channels (dim_at l)) l
