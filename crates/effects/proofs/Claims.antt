-- The two forms of effects have the same words, with rows and columns exchanged.
use mathlib.Core.Path.{◌≡◌, refl, sym, ap, ◌∙◌, subst}
use mathlib.Core.Bool.{Bool, cond}
use mathlib.Core.List.{List}
use Prim.Native.Nat.{ℕ, zero, suc, ◌+◌, ◌*◌, ◌<◌}
use native.Mathlib.Omega.{arith}
use lib.Arith.{digits_lt, digits_div, digits_mod}
use lib.IntN.{ℤ, pos}
use Rattle.exact.specs.Exact.{list_of}
use Rattle.channel.specs.Shared.{shared_exponent, scaled}
use Rattle.channel.specs.Layout.{channels, record_head, record_at, word, entry_at, effect_of, dim_at, count_at}
use Rattle.effects.specs.Effects.{effect_at, povm_at, effect_record, effects_words}
use Rattle.effects.specs.Inner.Readable.{Dim, Ready}
use Rattle.effects.specs.Claims.{Exchanged, Transposes}
use Rattle.effects.proofs.Strides.{povm-exponent}
use Rattle.effects.proofs.Records.{dim_of}
use Rattle.effects.proofs.Answers.{accepted_ready}
use Rattle.effects.proofs.Reading.{words_long, header-word, word_after, record_word, entry-word}

-- the head of a record is the same in both forms
same_head : (l : List ℤ) (d at i : ℕ) → Dim d → i < record_head → word (effect_record povm_at l d at) i ≡ word (effect_record effect_at l d at) i
same_head l d at zero m h = refl
same_head l d at (suc zero) m h = refl
same_head l d at (suc (suc zero)) m h = refl
same_head l d at (suc (suc (suc zero))) m h = ap pos (povm-exponent l at d m)
same_head l d at (suc (suc (suc (suc i)))) m h = absurd (omega arith)

module _ (l res : List ℤ) (g : Ready l res (dim_at l) (count_at l)) where
  abbrev d : ℕ
  d = dim_at l

  abbrev at : ℕ → ℕ
  at j = record_at (channels d) j

  -- entry (c, r) of the transposed effect of block j over 2^e, as words
  abbrev numerator : ℕ → ℕ → ℕ → ℕ → ℕ → ℤ
  numerator j e r c i = word (list_of (scaled e (effect_of d (entry_at (channels d) l (at j)) c r))) i

  exchanged : Exchanged (dim_at l) (count_at l) (effects_words effect_at l res) (effects_words povm_at l res)
  exchanged = record {
    long = words_long povm_at l res g ∙ sym (words_long effect_at l res g);
    header = λ i h. header-word povm_at l res g i h ∙ sym (header-word effect_at l res g i h);
    head = λ j i h k. record_word povm_at l res g j h i (omega arith) ∙ same_head l d (at j) i (dim_of l g.form) k ∙ sym (record_word effect_at l res g j h i (omega arith));
    entries = λ j r c i h p q k. entry-word povm_at l res g j h (r * d + c) (digits_lt p q) i k
        ∙ (λ x. numerator j (povm-exponent l (at j) d (dim_of l g.form) x) (digits_div r q x) (digits_mod r q x) i)
        ∙ sym (entry-word effect_at l res g j h (c * d + r) (digits_lt q p) i k ∙ (λ x. numerator j (shared_exponent (d * d) (effect_at l (at j) d)) (digits_mod c p x) (digits_div c p x) i));
    after = λ i h. word_after povm_at l res g i h ∙ sym (word_after effect_at l res g i h);
  }

pub transposes : Transposes
transposes l res e =
    subst (λ (b : Bool). Exchanged (dim_at l) (count_at l) (cond b (effects_words effect_at l res) res) (cond b (effects_words povm_at l res) res)) (sym e) (exchanged l res (accepted_ready l res e))
