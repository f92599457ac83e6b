-- Well-formed words of a form, well-formed channels, and those without a block of zeros.
use Rattle.std.specs.Prelude.{Bool, true, false, cond, not, ◌&&◌, ◌||◌, List, ℕ, zero, suc, ◌+◌, ◌*◌, ◌-◌, ◌/◌, ◌%◌, ◌^◌, eqb, leb, ltb, length, ℤ, pos, negsuc, nat_abs, Ok, Err}
use Rattle.algebra.specs.Lists.{all_below, some}
use Rattle.algebra.specs.Words.{eqℤ, up_to}
use Rattle.exact.specs.Exact.{Number, Exact, is_zero, max_exponent}
use Rattle.verdict.specs.Questions.{Verdict}
use Rattle.verdict.specs.declared.Refusal.TheVariants.{Malformed, ZeroBlock}
use Rattle.store.specs.Store.{max_word, store_from, before}
use Rattle.channel.specs.Shared.{shared_ok}
use Rattle.channel.specs.Layout.{Form, channels, header_size, exponent_place, entries, record_size, word, store_at, dim_at, bits_at, count_at, numbers_at, shared_at, Block, side, read_back}

abbrev pub is_dim : ℤ → Bool
is_dim z = (((eqℤ z (pos 1) || eqℤ z (pos 2)) || eqℤ z (pos 4)) || eqℤ z (pos 8)) || eqℤ z (pos 16)

-- both words in range, and the bits beyond the m-th zero
abbrev pub words_ok : ℤ → ℤ → ℕ → Bool
words_ok low high m = (up_to max_word low && up_to max_word high) && ltb (store_from low high) (2 ^ m)

abbrev pub store_ok : List ℤ → ℕ → ℕ → Bool
store_ok l at m = words_ok (word l (at + 1)) (word l (at + 2)) m

-- the first store, or one that comes after the store before it
abbrev pub rises : Bool → ℕ → ℕ → Bool
rises first prev s = first || before prev s

-- its own conjugate
abbrev pub is_real : Number → Bool
is_real z = eqℤ z.im.re (pos 0) && eqℤ z.im.im (pos 0)

module _ (F : Form) where
  -- the records lie inside the words
  abbrev pub counted : List ℤ → Bool
  counted l = up_to ((length l - header_size) / record_size F) (word l 2)

  abbrev pub header_ok : List ℤ → Bool
  header_ok l = leb header_size (length l) && ((is_dim (word l 0) && up_to 64 (word l 1)) && counted l)

  -- an index at which one of `count` records starts
  abbrev pub is_start : ℕ → ℤ → Bool
  is_start count (pos a) = leb header_size a && (eqb ((a - header_size) % record_size F) 0 && ltb ((a - header_size) / record_size F) count)
  is_start count (negsuc a) = false

  -- where half of a block is kept, its diagonal is real
  abbrev pub diagonal_ok : (ℕ → Number) → Bool
  diagonal_ok z = not F.half || all_below F.side (λ (r : ℕ). is_real (z (r * F.side + r)))

  -- the exponent and the numerators of the record at `at` are a shared form in range
  abbrev pub block_ok : List ℤ → ℕ → Bool
  block_ok l at = up_to max_exponent (word l (at + exponent_place)) && (shared_ok (entries F) (shared_at F l at) && diagonal_ok (numbers_at F l at))

  -- what is asked of the record at `at`, in a channel of m bits
  abbrev pub record_ok : List ℤ → ℕ → ℕ → Bool → ℕ → Bool
  record_ok l m at first prev = store_ok l at m && (rises first prev (store_at l at) && block_ok l at)

  -- n of `count` records along the chain from index z on, in rising order, and then its end
  unfoldable pub chain_ok : List ℤ → ℕ → ℕ → ℕ → ℤ → Bool → ℕ → Bool
  chain_ok l m count zero z first prev = eqℤ z (pos 0)
  chain_ok l m count (suc n) z first prev = is_start count z && (record_ok l m (nat_abs z) first prev && chain_ok l m count n (word l (nat_abs z)) false (store_at l (nat_abs z)))

  abbrev pub chained : List ℤ → Bool
  chained l = chain_ok l (bits_at l) (count_at l) (count_at l) (word l 3) true 0

  unfoldable pub well_formed_in : List ℤ → Bool
  well_formed_in l = header_ok l && chained l

unfoldable pub well_formed : List ℤ → Bool
well_formed l = well_formed_in (channels (dim_at l)) l

-- ---- no block of zeros
abbrev pub all_zero : ℕ → (ℕ → Exact) → Bool
all_zero n x = all_below n (λ (k : ℕ). is_zero (x k).num)

abbrev pub some_zero : ℕ → List Block → Bool
some_zero w bs = some (λ (b : Block). all_zero (w * w) b.entry) bs

-- a block that is read back has no entry but zeros
abbrev pub has_zero_block : List ℤ → Bool
has_zero_block l = some_zero (side (dim_at l)) (read_back l)

-- the verdict on words given as a channel, by whether they are well formed and whether a block is zero
abbrev pub verdict_by : Bool → Bool → Verdict
verdict_by right blank = cond right (cond blank (Err ZeroBlock) (Ok tt)) (Err Malformed)

abbrev pub form_verdict : List ℤ → Verdict
form_verdict l = verdict_by (well_formed l) (has_zero_block l)
