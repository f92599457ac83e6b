-- The block of a store: where it lies in a channel's words.
use Rattle.std.specs.Prelude.{cond, List, [], ℕ, zero, suc, ◌+◌, eqb, take, drop, ℤ, nat_abs, Option, Some, None, is_ok}
use Rattle.algebra.specs.Words.{from_bits}
use Rattle.store.specs.Store.{store_fits}
use Rattle.channel.specs.declared.lookup.Span.{Span}
use Rattle.channel.specs.Layout.{exponent_place, channels, block_size, word, store_at, dim_at, bits_at, count_at}
use Rattle.channel.specs.WellFormed.{form_verdict}

pub data Lookup : Type 0 where
  -- the channel is
  refused : Lookup
  wrong_store : Lookup
  missing : Lookup
  -- the index of the store's record
  found : ℕ → Lookup

-- the index of the record with store s among n along the chain from `at` on
unfoldable pub find : List ℤ → ℕ → ℕ → ℕ → Option ℕ
find l s zero at = None
find l s (suc n) at = cond (eqb (store_at l at) s) (Some at) (find l s n (nat_abs (word l at)))

abbrev pub placed : Option ℕ → Lookup
placed None = missing
placed (Some at) = found at

abbrev pub lookup_of : List ℤ → List ℕ → Lookup
lookup_of l bytes =
    cond (is_ok (form_verdict l)) (cond (store_fits (bits_at l) bytes) (placed (find l (from_bits bytes) (count_at l) (nat_abs (word l 3)))) wrong_store) refused

-- the words of a block: its exponent, word 3 of its record, and its numerators
abbrev pub block_words : List ℤ → ℕ
block_words l = 1 + block_size (channels (dim_at l))

-- the part of the words that holds the block, or an empty part
abbrev pub part_of : List ℤ → Lookup → List ℤ
part_of l refused = []
part_of l wrong_store = []
part_of l missing = []
part_of l (found at) = take (block_words l) (drop (at + exponent_place) l)

-- where that part starts, and its size
abbrev pub span_of : List ℤ → Lookup → Option Span
span_of l refused = None
span_of l wrong_store = None
span_of l missing = None
span_of l (found at) = Some (record { start = at + exponent_place; size = block_words l })
