-- What is claimed of shared forms, of the words of each form, and of those taken from one form to another.
use Rattle.std.specs.Prelude.{◌≡◌, Bool, true, not, ◌&&◌, ◌||◌, List, ◌++◌, ℕ, ◌+◌, ◌*◌, ◌<◌, ◌≤◌, leb, take, ℤ, pos, nat_abs}
use Rattle.algebra.specs.Quadratic.{conjugate}
use Rattle.algebra.specs.Dyadic.{frac, evenℤ}
use Rattle.algebra.specs.Lists.{all_below}
use Rattle.algebra.specs.Sum.{sum}
use Rattle.algebra.specs.Words.{eqℤ, up_to}
use Rattle.exact.specs.Exact.{Number, numbers, root2, Exact, exact, lowest, equal, conj, max_numerator, max_exponent}
use Rattle.channel.specs.Shared.{Shared, entry, is_shared, shared, reduced}
use Rattle.channel.specs.Layout.{Block, Form, form, full, channels, effects, packed, plain_only}
use Rattle.channel.specs.Layout.{header_size, record_head, exponent_place, entries, block_size, record_size, record_at, words, first, next, word, store_at, dim_at, bits_at, count_at, numbers_at, block_at}
use Rattle.channel.specs.WellFormed.{diagonal_ok, block_ok, well_formed_in}
use Rattle.channel.specs.Recast.{relink, recast}
use Rattle.channel.specs.Claims.{Lowest, Plain, Suits}

-- ---- shared forms
-- the same exponent and the same n numerators
pub record Alike (n : ℕ) (a b : Shared) : Type 0 where
  pub exp : a.exp ≡ b.exp
  pub num : (k : ℕ) → k < n → a.num k ≡ b.num k

-- scaling loses nothing, and gives a shared form
abbrev pub GivesBack : Type 0
GivesBack = (n : ℕ) (x : ℕ → Exact) → Lowest n x → (k : ℕ) → k < n → entry (shared n x) k ≡ x k

abbrev pub IsShared : Type 0
IsShared = (n : ℕ) (x : ℕ → Exact) → Lowest n x → is_shared n (shared n x) ≡ true

-- shared forms are unique: the numbers are equal exactly where the words are
abbrev pub Unique : Type 0
Unique = (n : ℕ) (a b : Shared) → is_shared n a ≡ true → is_shared n b ≡ true
    → (((k : ℕ) → k < n → entry a k ≡ entry b k) → Alike n a b) × (Alike n a b → (k : ℕ) → k < n → entry a k ≡ entry b k)

-- halving all at once gives the shared form of the lowest forms
abbrev pub Reduced : Type 0
Reduced = (n e : ℕ) (z : ℕ → Number) → Alike n (reduced n z e) (shared n (λ (k : ℕ). lowest (z k) e))

-- so do sums at one exponent, reduced once
abbrev pub SumsReduced : Type 0
SumsReduced = (n e t : ℕ) (f : ℕ → ℕ → Number) → Alike n (reduced n (λ (k : ℕ). sum numbers t (λ (i : ℕ). f i k)) e) (shared n (λ (k : ℕ). sum exact t (λ (i : ℕ). lowest (f i k) e)))

-- ---- equal blocks have equal words
pub record SameWords (F : Form) (l : List ℤ) (a : ℕ) (r : List ℤ) (b : ℕ) : Type 0 where
  pub exponent : word l (a + exponent_place) ≡ word r (b + exponent_place)
  pub numerators : (i : ℕ) → i < block_size F → word l (a + record_head + i) ≡ word r (b + record_head + i)

abbrev pub SameEntries : Form → List ℤ → ℕ → List ℤ → ℕ → Type 0
SameEntries F l a r b = (k : ℕ) → k < entries F → (block_at F l a).entry k ≡ (block_at F r b).entry k

abbrev pub WordsDecide : Type 0
WordsDecide = (F : Form) (l : List ℤ) (a : ℕ) (r : List ℤ) (b : ℕ) → block_ok F l a ≡ true → block_ok F r b ≡ true
    → (SameEntries F l a r b → SameWords F l a r b) × (SameWords F l a r b → SameEntries F l a r b)

-- ---- a block is judged by one pass over its words
abbrev pub pass_ok : Form → List ℤ → ℕ → Bool
pass_ok F l at =
    up_to max_exponent (word l (at + exponent_place))
    && (all_below (block_size F) (λ (i : ℕ). leb (nat_abs (word l (at + record_head + i))) max_numerator)
    && (eqℤ (word l (at + exponent_place)) (pos 0) || not (all_below (block_size F) (λ (i : ℕ). evenℤ (word l (at + record_head + i))))))

abbrev pub ByWords : Type 0
ByWords = (F : Form) (l : List ℤ) (at : ℕ) → block_ok F l at ≡ (pass_ok F l at && diagonal_ok F (numbers_at F l at))

-- ---- well-formed words are those that are written from their blocks
-- the block of record j
abbrev pub block_of : Form → List ℤ → ℕ → Block
block_of F l j = block_at F l (record_at F j)

-- the words up to the end of the last record
abbrev pub used : Form → List ℤ → List ℤ
used F l = take (header_size + count_at l * record_size F) l

abbrev pub Canonical : Type 0
Canonical = (F : Form) (l : List ℤ) → well_formed_in F l ≡ true → used F l ≡ words F (dim_at l) (bits_at l) (count_at l) (block_of F l)

-- ---- from form to form
-- the full form suits every block
abbrev pub FullSuits : Type 0
FullSuits = (w : ℕ) (x : ℕ → Exact) → Suits (full w) x

-- what a form keeps restores the numerators: Hermitian where half is kept, no √2 part where n0 and n2 alone are
abbrev pub is_conjugate : Number → Number → Bool
is_conjugate x y = equal (frac x 0) (frac (conjugate root2 y) 0)

abbrev pub has_root : Number → Bool
has_root z = not (eqℤ z.re.im (pos 0) && eqℤ z.im.im (pos 0))

abbrev pub restores : Form → (ℕ → Number) → Bool
restores F z =
    (not F.half || all_below F.side (λ (r : ℕ). all_below F.side (λ (c : ℕ). is_conjugate (z (r * F.side + c)) (z (c * F.side + r)))))
    && (not F.plain || all_below (entries F) (λ (k : ℕ). not (has_root (z k))))

pub record Restorable (F : Form) (z : ℕ → Number) : Type 0 where
  pub mirror : F.half ≡ true → (r c : ℕ) → r < F.side → c < F.side → z (r * F.side + c) ≡ conjugate root2 (z (c * F.side + r))
  pub rational : (k : ℕ) → k < entries F → Plain F.plain (z k)

-- the test is right, whatever the exponent e
abbrev pub RestoresExactly : Type 0
RestoresExactly = (F : Form) (z : ℕ → Number) (e : ℕ) → (restores F z ≡ true → Suits F (λ (k : ℕ). lowest (z k) e)) × (Suits F (λ (k : ℕ). lowest (z k) e) → restores F z ≡ true)

-- what is written in one form is taken to what is written in the other
abbrev pub RecastWritten : Type 0
RecastWritten = (w : ℕ) (a b a' b' : Bool) (d m n : ℕ) (block : ℕ → Block) → ((j : ℕ) → j < n → Suits (form w a b) (block j).entry) → (rest : List ℤ)
    → recast (form w a b) (form w a' b') (words (form w a b) d m n block ++ rest) ≡ words (form w a' b') d m n block

-- so well-formed words whose blocks another form suits are well formed when taken to it, and are restored from there:
-- packing and unpacking, and so for n0 and n2 alone
pub record Restored (F G : Form) (l rest : List ℤ) : Type 0 where
  pub right : well_formed_in G (recast F G l ++ rest) ≡ true
  pub back : recast G F (recast F G l ++ rest) ≡ used F l

abbrev pub RecastBack : Type 0
RecastBack = (w : ℕ) (a b a' b' : Bool) (l : List ℤ) → well_formed_in (form w a b) l ≡ true
    → ((j : ℕ) → j < count_at l → Suits (form w a' b') (block_of (form w a b) l j).entry) → (rest : List ℤ) → Restored (form w a b) (form w a' b') l rest

-- the indices of well-formed words, taken to another form, are those that are written there, whatever the blocks:
-- so the effects of a channel may take their order from its words
abbrev pub same_stores : Form → List ℤ → (ℕ → ℕ → Exact) → ℕ → Block
same_stores F l x j = record { store = store_at l (record_at F j); entry = x j }

pub record Relinked (F G : Form) (l : List ℤ) (x : ℕ → ℕ → Exact) : Type 0 where
  pub start : relink F G (word l 3) ≡ pos (first G (dim_at l) (bits_at l) (count_at l) (same_stores F l x))
  pub onward : (j : ℕ) → j < count_at l → relink F G (word l (record_at F j)) ≡ pos (next G (dim_at l) (bits_at l) (count_at l) (same_stores F l x) j)

abbrev pub Relinks : Type 0
Relinks = (F G : Form) (l : List ℤ) → well_formed_in F l ≡ true → (x : ℕ → ℕ → Exact) → Relinked F G l x

-- the entries r ≤ c decide a Hermitian block of w rows
abbrev pub Hermitian : ℕ → (ℕ → Exact) → Type 0
Hermitian w x = (r c : ℕ) → r < w → c < w → x (r * w + c) ≡ conj (x (c * w + r))

abbrev pub HalfDecides : Type 0
HalfDecides = (w : ℕ) (x y : ℕ → Exact) → Hermitian w x → Hermitian w y → ((r c : ℕ) → r ≤ c → c < w → x (r * w + c) ≡ y (r * w + c))
    → (r c : ℕ) → r < w → c < w → x (r * w + c) ≡ y (r * w + c)

-- ---- the sizes of the requests, for dimension d
pub record Sizes (d : ℕ) : Type 0 where
  pub channels : record_size (channels d) ≡ 4 + 4 * (d * d * (d * d))
  pub effects : record_size (effects d) ≡ 4 + 4 * (d * d)
  pub packed : record_size (packed d) ≡ 4 + 2 * (d * d * (d * d + 1))
  pub plain : record_size (plain_only d) ≡ 4 + 2 * (d * d * (d * d))
