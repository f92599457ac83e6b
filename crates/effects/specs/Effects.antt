-- The effects of a channel, its POVM elements: the Choi block of each store summed over the outputs, in words of the same layout; transposed, and as the textbook has them.
use Rattle.std.specs.Prelude.{Bool, cond, ◌&&◌, List, [], ◌∷◌, ℕ, suc, ◌+◌, ◌*◌, ◌/◌, ◌%◌, leb, length, ℤ, pos, is_ok, Ok, Err}
use Rattle.std.proofs.lemmas.List.Edits.{sets}
use Rattle.algebra.specs.Sum.{sum}
use Rattle.algebra.specs.Lists.{all_below}
use Rattle.algebra.specs.Words.{blocks}
use Rattle.verdict.specs.Questions.{Verdict}
use Rattle.verdict.specs.declared.Refusal.TheVariants.{ShortBuffer, TooLarge}
use Rattle.exact.specs.Exact.{Exact, exact, in_range}
use Rattle.channel.specs.Shared.{Shared, shared, shared_fits}
use Rattle.channel.specs.Layout.{channels, effects, header_size, record_size, record_at, block_words, word, entry_at, effect_place, effect_of, dim_at, count_at}
use Rattle.channel.specs.Recast.{relink}
use Rattle.channel.specs.WellFormed.{form_verdict}

-- ---- the effect of the block at `at`, of a channel of dimension d
-- term o of the sum for i = r·d + c: block entry (o·d + r, o·d + c)
abbrev pub term : List ℤ → ℕ → ℕ → ℕ → ℕ → Exact
term l at d i o = entry_at (channels d) l at (effect_place d (i / d) (i % d) o)

-- entry i, row · d + column, of the transposed effect
abbrev pub effect_at : List ℤ → ℕ → ℕ → ℕ → Exact
effect_at l at d i = effect_of d (entry_at (channels d) l at) (i / d) (i % d)

-- entry i of the textbook's effect: its entry (r, c) is entry (c, r) of the transposed one
abbrev pub povm_at : List ℤ → ℕ → ℕ → ℕ → Exact
povm_at l at d i = effect_of d (entry_at (channels d) l at) (i % d) (i / d)

-- the first n partial sums from 0 up are in range
abbrev pub partials_fit : ℕ → (ℕ → Exact) → Bool
partials_fit n f = all_below n (λ (m : ℕ). in_range (sum exact (suc m) f))

-- so are those of every entry
abbrev pub terms_fit : List ℤ → ℕ → ℕ → Bool
terms_fit l at d = all_below (d * d) (λ (i : ℕ). partials_fit d (term l at d i))

-- and so is the finished effect, at the exponent that its entries share
abbrev pub record_fits : List ℤ → ℕ → ℕ → Bool
record_fits l at d = terms_fit l at d && shared_fits (d * d) (shared (d * d) (effect_at l at d))

abbrev pub sums_fit : List ℤ → ℕ → ℕ → Bool
sums_fit l d n = all_below n (λ (j : ℕ). record_fits l (record_at (channels d) j) d)

-- ---- the words
-- how many there are
abbrev pub effects_size : List ℤ → ℕ
effects_size l = header_size + count_at l * record_size (effects (dim_at l))

-- the indices are those of the effects' records that match the channel's
abbrev pub effect_header : List ℤ → ℕ → List ℤ
effect_header l d = word l 0 ∷ word l 1 ∷ word l 2 ∷ relink (channels d) (effects d) (word l 3) ∷ []

-- entry i of the effect of the block at `at` is written as `entry l at d i`
module _ (entry : List ℤ → ℕ → ℕ → ℕ → Exact) where
  -- the shared exponent of its d² entries, and their numerators
  abbrev pub effect_shared : List ℤ → ℕ → ℕ → Shared
  effect_shared l at d = shared (d * d) (entry l at d)

  -- the record of the block at `at`: next, the store's two words, the exponent, the numerators
  abbrev pub effect_record : List ℤ → ℕ → ℕ → List ℤ
  effect_record l d at = relink (channels d) (effects d) (word l at) ∷ word l (at + 1) ∷ word l (at + 2) ∷ pos (effect_shared l at d).exp ∷ block_words (effects d) (effect_shared l at d).num

  -- the first n records, in the channel's own order
  abbrev pub with_records : List ℤ → ℕ → ℕ → List ℤ → List ℤ
  with_records l d n res = blocks (record_size (effects d)) res header_size n (λ (j : ℕ). effect_record l d (record_at (channels d) j))

  abbrev pub effects_words : List ℤ → List ℤ → List ℤ
  effects_words l res = with_records l (dim_at l) (count_at l) (sets res 0 (effect_header l (dim_at l)))

  -- a refusal leaves the result as it was
  abbrev pub result_by : Verdict → List ℤ → List ℤ → List ℤ
  result_by v l res = cond (is_ok v) (effects_words l res) res

-- ---- the answer of both calls, and what each leaves in the result
abbrev pub effects_verdict : List ℤ → List ℤ → Verdict
effects_verdict l res =
    cond (is_ok (form_verdict l))
    (cond (leb (effects_size l) (length res)) (cond (sums_fit l (dim_at l) (count_at l)) (Ok tt) (Err TooLarge)) (Err ShortBuffer))
    (form_verdict l)

abbrev pub result_of : List ℤ → List ℤ → List ℤ
result_of l res = result_by effect_at (effects_verdict l res) l res

abbrev pub povm_of : List ℤ → List ℤ → List ℤ
povm_of l res = result_by povm_at (effects_verdict l res) l res
