-- What is read of the effects' words: the header, the head of each record and its entries; along their chain, the effects of the blocks along the channel's.
use mathlib.Core.Path.{◌≡◌, refl, sym, ap, ◌∙◌, subst}
use mathlib.Core.Bool.{true}
use mathlib.Core.Logic.{inl}
use mathlib.Core.List.{List, [], ◌∷◌, map}
use Prim.Native.Nat.{ℕ, zero, suc, ◌+◌, ◌*◌, ◌-◌, ◌/◌, ◌≤◌, ◌<◌}
use native.Mathlib.Omega.{arith}
use lib.Arith.{digits_div}
use lib.ListN.{length}
use lib.Seq.{sets, length-sets}
use lib.IntN.{ℤ, pos, nat_abs}
use Rattle.algebra.specs.Words.{joined}
use Rattle.algebra.proofs.Blocks.{sets_at, sets_above, length-blocks, blocks_at, joined_at, Writing, wrote, kept, rest}
use Rattle.exact.specs.Exact.{Exact, list_of, lowest, is_lowest}
use Rattle.store.specs.Store.{store_from}
use Rattle.channel.specs.Layout.{Block, Form, channels, effects, header_size, record_head, record_size, record_at, side, word, store_at, exp_at, numbers_at, entry_at, dim_at, count_at, block_at, chain, read_back_in, read_back}
use Rattle.channel.specs.Recast.{relink}
use Rattle.channel.specs.Inner.Shapes.{Onward}
use Rattle.channel.proofs.Shared.{gives_back}
use Rattle.channel.proofs.Full.{full-words}
use Rattle.channel.proofs.Restore.{restored, shared_restorable}
use Rattle.channel.proofs.Canonical.{full_suits}
use Rattle.channel.proofs.Words.{Starts}
use Rattle.channel.proofs.Chain.{onward_begin, first-index, on-start, on-index, on-next}
use Rattle.effects.specs.Effects.{effect_header, effect_shared, effect_record, effects_words}
use Rattle.effects.specs.Claims.{numerator_place}
use Rattle.effects.specs.Inner.Readable.{Ready}
use Rattle.effects.proofs.Linking.{relink-at}
use Rattle.effects.proofs.Records.{record_length}

-- two lists of blocks, one for one
abbrev pub Matched : (Block → Block → Type 0) → List Block → List Block → Type 0
Matched P [] [] = Unit {0}
Matched P [] (y ∷ ys) = ⊥
Matched P (x ∷ xs) [] = ⊥
Matched P (x ∷ xs) (y ∷ ys) = P x y × Matched P xs ys

module _ (entry : List ℤ → ℕ → ℕ → ℕ → Exact) (l res : List ℤ) (r : Ready l res (dim_at l) (count_at l)) where
  abbrev d : ℕ
  d = dim_at l

  abbrev n : ℕ
  n = count_at l

  abbrev words : List ℤ
  words = effects_words entry l res

  abbrev headed : List ℤ
  headed = sets res 0 (effect_header l d)

  abbrev records : ℕ → List ℤ
  records j = effect_record entry l d (record_at (channels d) j)

  written : Writing (record_size (effects d)) headed header_size n records words n
  written = wrote (λ j. let e = record_length entry l d (record_at (channels d) j) in omega arith) refl

  pub words_long : length (effects_words entry l res) ≡ length res
  words_long = length-blocks (record_size (effects d)) headed header_size records n ∙ length-sets res 0 (effect_header l d)

  pub header-word : (i : ℕ) → i < header_size → word (effects_words entry l res) i ≡ word (effect_header l (dim_at l)) i
  header-word i h =
      let q = r.room in
      let e : i ≡ 0 + i = omega arith in
      (kept written 0 header_size (inl (omega arith))).word i (omega arith) (omega arith) ∙ ap (word headed) e ∙ sets_at (effect_header l d) res 0 i (pos 0) h (omega arith)

  pub word_after : (i : ℕ) → record_at (effects (dim_at l)) (count_at l) ≤ i → word (effects_words entry l res) i ≡ word res i
  word_after i h = (rest written i 1 h).word i (omega arith) (omega arith) ∙ sets_above (effect_header l d) res 0 i (pos 0) (omega arith)

  module _ (j : ℕ) (h : j < count_at l) where
    abbrev entries : ℕ → Exact
    entries = entry l (record_at (channels (dim_at l)) j) (dim_at l)

    pub record_word : (i : ℕ) → i < record_size (effects (dim_at l))
        → word (effects_words entry l res) (record_at (effects (dim_at l)) j + i) ≡ word (effect_record entry l (dim_at l) (record_at (channels (dim_at l)) j)) i
    record_word i k =
        let e = record_length entry l d (record_at (channels d) j) in
        let q = r.room in
        let f = length-sets res 0 (effect_header l d) in
        blocks_at (record_size (effects d)) headed header_size records written.sized n j i h (omega arith) (omega arith)

    -- word i of the numerators
    numerator-word : (i : ℕ) → i < d * d * 4 → word words (record_at (effects d) j + record_head + i) ≡ word (joined (d * d) (λ (k : ℕ). list_of ((effect_shared entry l (record_at (channels d) j) d).num k))) i
    numerator-word i p =
        let e : record_at (effects d) j + record_head + i ≡ record_at (effects d) j + suc (suc (suc (suc i))) = by (j * record_size (effects d)) in
        ap (word words) e ∙ record_word (suc (suc (suc (suc i)))) (inside (d * d * 4) p) ∙ ap (λ (ws : List ℤ). word ws i) (full-words d (effect_shared entry l (record_at (channels d) j) d).num)
      where
        by : (x : ℕ) → header_size + x + record_head + i ≡ header_size + x + suc (suc (suc (suc i)))
        by x = omega arith

        inside : (s : ℕ) → i < s → suc (suc (suc (suc i))) < record_head + s
        inside s q = omega arith

    module _ (k : ℕ) (p : k < dim_at l * dim_at l) where
      pub entry-word : (i : ℕ) → i < 4 → word (effects_words entry l res) (numerator_place (dim_at l) j k + i) ≡ word (list_of ((effect_shared entry l (record_at (channels (dim_at l)) j) (dim_at l)).num k)) i
      entry-word i q =
          let e : numerator_place d j k + i ≡ record_at (effects d) j + record_head + (k * 4 + i) = by (record_at (effects d) j) in
          ap (word words) e ∙ numerator-word (k * 4 + i) (inside (d * d) p) ∙ joined_at 4 (λ (k : ℕ). list_of ((effect_shared entry l (record_at (channels d) j) d).num k)) (λ k. refl) (d * d) k i p q
        where
          by : (x : ℕ) → x + record_head + k * 4 + i ≡ x + record_head + (k * 4 + i)
          by x = omega arith

          inside : (s : ℕ) → k < s → k * 4 + i < s * 4
          inside s h = omega (arith, q)

      pub entry_read : ((i : ℕ) → is_lowest (entries i) ≡ true) → entry_at (effects (dim_at l)) (effects_words entry l res) (record_at (effects (dim_at l)) j) k ≡ entries k
      entry_read low = (λ i. lowest (numbers i) (exponent i)) ∙ gives_back (d * d) entries (λ i q. low i) k p
        where
          exponent : exp_at words (record_at (effects d) j) ≡ (effect_shared entry l (record_at (channels d) j) d).exp
          exponent = ap nat_abs (record_word 3 (omega arith))

          numbers : numbers_at (effects d) words (record_at (effects d) j) k ≡ (effect_shared entry l (record_at (channels d) j) d).num k
          numbers =
              restored (effects d) (effect_shared entry l (record_at (channels d) j) d).num (shared_restorable (effects d) entries (full_suits d entries)) (λ (i : ℕ). word words (record_at (effects d) j + record_head + i))
              (λ i q. numerator-word i q ∙ ap (λ (ws : List ℤ). word ws i) (sym (full-words d (effect_shared entry l (record_at (channels d) j) d).num))) k p

  -- the place of a record of the channel, and the index of its effect
  relinked : {at : ℕ} (s : Starts (channels d) n at) → relink (channels d) (effects d) (pos at) ≡ pos (record_at (effects d) s.place)
  relinked {at} s = relink-at d (pos at) from ∙ ap (λ (p : ℕ). pos (record_at (effects d) p)) (by (side d * side d * 4) s.place s.is)
    where
      from : header_size ≤ at
      from = go (s.place * record_size (channels d)) s.is
        where
          go : (x : ℕ) → at ≡ header_size + x → header_size ≤ at
          go x e = omega arith

      by : (x p : ℕ) → at ≡ header_size + p * (record_head + x) → (at - header_size) / (record_head + x) ≡ p
      by x p e =
          let z : at - header_size ≡ p * (record_head + x) + 0 = omega arith in
          ap (λ (k : ℕ). k / (record_head + x)) z ∙ digits_div p (omega arith)

-- a is the effect of the block b, in the form that `form` gives by the entries of the block
pub record EffectOf (form : ℕ → (ℕ → Exact) → ℕ → Exact) (d : ℕ) (a b : Block) : Type 0 where
  pub store : a.store ≡ b.store
  pub entries : (k : ℕ) → k < d * d → a.entry k ≡ form d b.entry k

pub effect-stores : (form : ℕ → (ℕ → Exact) → ℕ → Exact) (d : ℕ) (xs ys : List Block) → Matched (EffectOf form d) xs ys → map (λ (b : Block). b.store) xs ≡ map (λ (b : Block). b.store) ys
effect-stores form d [] [] h = refl
effect-stores form d [] (y ∷ ys) h = absurd h
effect-stores form d (x ∷ xs) [] h = absurd h
effect-stores form d (x ∷ xs) (y ∷ ys) h = λ i. h.0.store i ∷ effect-stores form d xs ys h.1 i

module _ (form : ℕ → (ℕ → Exact) → ℕ → Exact) (low : (d : ℕ) (x : ℕ → Exact) (k : ℕ) → is_lowest (form d x k) ≡ true) (l res : List ℤ) (r : Ready l res (dim_at l) (count_at l)) where
  abbrev entry : List ℤ → ℕ → ℕ → ℕ → Exact
  entry l at d k = form d (entry_at (channels d) l at) k

  abbrev left : List ℤ
  left = effects_words entry l res

  abbrev E : Form
  E = effects (dim_at l)

  abbrev link : ℤ → ℤ
  link = relink (channels (dim_at l)) E

  next-read : (n at : ℕ) (o : Onward l (suc n) at) (s : Starts (channels (dim_at l)) (count_at l) at) → word left (record_at E s.place) ≡ link (pos (nat_abs (word l at)))
  next-read n at o s =
      let e : record_at E s.place ≡ record_at E s.place + 0 = omega arith in
      ap (word left) e ∙ record_word entry l res r s.place s.below 0 (omega arith)
      ∙ ap (λ (a : ℕ). link (word l a)) (sym s.is) ∙ ap link (on-index o (omega arith))

  block_read : {at : ℕ} (s : Starts (channels (dim_at l)) (count_at l) at) → EffectOf form (dim_at l) (block_at E left (record_at E s.place)) (block_at (channels (dim_at l)) l at)
  block_read s = record {
    store = (λ i. store_from (record_word entry l res r s.place s.below 1 (omega arith) i) (record_word entry l res r s.place s.below 2 (omega arith) i)) ∙ ap (store_at l) (sym s.is);
    entries = λ k h. entry_read entry l res r s.place s.below k h (low (dim_at l) _) ∙ ap (λ (a : ℕ). form (dim_at l) (entry_at (channels (dim_at l)) l a) k) (sym s.is);
  }

  chain-read : (n at : ℕ) → Onward l n at → Matched (EffectOf form (dim_at l)) (chain E left n (nat_abs (link (pos at)))) (chain (channels (dim_at l)) l n at)
  chain-read zero at o = tt
  chain-read (suc n) at o =
      let s = on-start o (omega arith) in
      let less : suc n - 1 ≡ n = omega arith in
      let tail = chain-read n (nat_abs (word l at)) (subst (λ (k : ℕ). Onward l k (nat_abs (word l at))) less (on-next o (omega arith))) in
      subst (λ (x : ℕ). Matched (EffectOf form (dim_at l)) (chain E left (suc n) x) (chain (channels (dim_at l)) l (suc n) at)) (sym (ap nat_abs (relinked entry l res r s)))
      (block_read s, subst (λ (z : ℤ). Matched (EffectOf form (dim_at l)) (chain E left n (nat_abs z)) (chain (channels (dim_at l)) l n (nat_abs (word l at)))) (sym (next-read n at o s)) tail)

  -- along the chain of the effects' words stand the effects of the blocks along the channel's
  pub effects-read : Matched (EffectOf form (dim_at l)) (read_back_in (effects (dim_at l)) (effects_words (λ (l : List ℤ) (at d k : ℕ). form d (entry_at (channels d) l at) k) l res)) (read_back l)
  effects-read =
      let count : count_at left ≡ count_at l = ap nat_abs (header-word entry l res r 2 (omega arith)) in
      let first : word left 3 ≡ link (pos (nat_abs (word l 3))) = header-word entry l res r 3 (omega arith) ∙ ap link (first-index l r.form) in
      subst (λ (n : ℕ). Matched (EffectOf form (dim_at l)) (chain E left n (nat_abs (word left 3))) (read_back l)) (sym count)
      (subst (λ (z : ℤ). Matched (EffectOf form (dim_at l)) (chain E left (count_at l) (nat_abs z)) (read_back l)) (sym first)
      (chain-read (count_at l) (nat_abs (word l 3)) (onward_begin l r.form)))
