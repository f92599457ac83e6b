-- What the shared form of a block says of its entries, and a finished effect's range at its shared exponent.
use mathlib.Core.Path.{◌≡◌, refl, sym, ap, ◌∙◌}
use mathlib.Core.Bool.{Bool, true, ◌&&◌}
use mathlib.Core.List.{List}
use Prim.Native.Nat.{ℕ, zero, suc, ◌+◌, ◌*◌, ◌/◌, ◌^◌, ◌≤◌, ◌<◌}
use native.Mathlib.Omega.{arith}
use lib.Dec.{leb}
use lib.ListN.{length}
use lib.IntN.{ℤ}
use lib.Seq.{sets}
use borrow.Author.Tests.{leb-true, le-leb}
use Rattle.algebra.specs.Lists.{all_below}
use Rattle.algebra.specs.Words.{up_to}
use Rattle.algebra.proofs.Tests.{and_split, all-at}
use Rattle.algebra.proofs.Signed.{limit}
use Rattle.algebra.proofs.Blocks.{blocks-joined}
use Rattle.exact.specs.Exact.{Number, Exact, list_of, within, well_formed, max_numerator, max_exponent}
use Rattle.exact.specs.Inner.Sizes.{scaled as times}
use Rattle.exact.proofs.Exact.{lowest-form}
use Rattle.exact.proofs.Sizes.{and4, within_of, of-within, well_exponent}
use Rattle.exact.proofs.Overflow.{lowest-size}
use Rattle.channel.specs.Shared.{is_shared, shared_exponent, scaled, shared_fits}
use Rattle.channel.specs.Layout.{channels, effects, exponent_place, block_words, side, word, numbers_at, exp_at, shared_at, entry_at}
use Rattle.channel.specs.Inner.Shapes.{Entries}
use Rattle.channel.proofs.Full.{full-words}
use Rattle.share.specs.Share.{with_numerators}
use Rattle.effects.specs.Effects.{term, effect_at, partials_fit, terms_fit, record_fits}
use Rattle.effects.specs.Inner.Readable.{Readable}
use Rattle.effects.proofs.Summing.{sum-formed}

module _ (l : List ℤ) (at d : ℕ) (r : Readable l at d) where
  shared_ok : shared_fits (side d * side d) (shared_at (channels d) l at) ≡ true
  shared_ok =
      let t = and_split (up_to max_exponent (word l (at + exponent_place))) _ r.formed in
      let u = and_split (shared_fits (side d * side d) (shared_at (channels d) l at) && is_shared (side d * side d) (shared_at (channels d) l at)) _ t.1 in
      (and_split (shared_fits (side d * side d) (shared_at (channels d) l at)) _ u.0).0

  -- n entries can be read
  pub entries_in : (n : ℕ) → n ≤ side d * side d → Entries l at n
  entries_in n h = record { inside = by (side d * side d) h r.inside; exponent = (and_split (up_to max_exponent (word l (at + exponent_place))) _ r.formed).0 }
    where
      by : (v : ℕ) → n ≤ v → at + (4 + v * 4) ≤ length l → at + 4 + n * 4 ≤ length l
      by v p q = omega arith

  pub entry-formed : (k : ℕ) → k < side d * side d → well_formed (entry_at (channels d) l at k) ≡ true
  entry-formed k h =
      let t = and_split (leb (exp_at l at) max_exponent) _ shared_ok in
      let z = numbers_at (channels d) l at k in
      let w = lowest-size max_numerator z (exp_at l at) (within_of max_numerator z (all-at (side d * side d) (λ (j : ℕ). within max_numerator (numbers_at (channels d) l at j)) t.1 k h)) in
      let e = leb-true (exp_at l at) max_exponent t.0 in
      λ i. (of-within max_numerator (entry_at (channels d) l at k).num w.0 i && le-leb (entry_at (channels d) l at k).exp max_exponent (omega (arith, w.1, e)) i) && lowest-form z (exp_at l at) i

-- ---- the finished effect
-- z times 2^d is in range where z is within the bound / 2^d
pub fits-scaled : (z : Number) (d : ℕ) → within (max_numerator / 2 ^ d) z ≡ within max_numerator (times z d)
fits-scaled z d = and4 (limit z.re.re max_numerator d) (limit z.re.im max_numerator d) (limit z.im.re max_numerator d) (limit z.im.im max_numerator d)

-- no number's exponent is larger, so the largest is not
pub exponent-most : (n : ℕ) (x : ℕ → Exact) (e : ℕ) → ((k : ℕ) → k < n → (x k).exp ≤ e) → shared_exponent n x ≤ e
exponent-most zero x e f = omega arith
exponent-most (suc n) x e f = let p = exponent-most n x e (λ k h. f k (omega arith)) in let q = f n (omega arith) in omega arith

module _ (l : List ℤ) (at d : ℕ) (t : terms_fit l at d ≡ true) where
  pub effect-formed : (i : ℕ) → i < d * d → well_formed (effect_at l at d i) ≡ true
  effect-formed i h = sum-formed (term l at d i) d (all-at (d * d) (λ (k : ℕ). partials_fit d (term l at d k)) t i h)

  pub exponent_small : shared_exponent (d * d) (effect_at l at d) ≤ max_exponent
  exponent_small = exponent-most (d * d) (effect_at l at d) max_exponent (λ k h. well_exponent (effect_at l at d k) (effect-formed k h))

  -- what is left to ask of the effect
  pub fits_by : (e : ℕ) → e ≡ shared_exponent (d * d) (effect_at l at d) → record_fits l at d ≡ all_below (d * d) (λ (i : ℕ). within max_numerator (scaled e (effect_at l at d i)))
  fits_by e q =
      (λ i. t i && (le-leb (shared_exponent (d * d) (effect_at l at d)) max_exponent exponent_small i && rest (shared_exponent (d * d) (effect_at l at d))))
      ∙ ap rest (sym q)
    where
      rest : ℕ → Bool
      rest e = all_below (d * d) (λ (i : ℕ). within max_numerator (scaled e (effect_at l at d i)))

-- a record that fits
module _ (l : List ℤ) (at d : ℕ) (f : record_fits l at d ≡ true) where
  pub terms_fit_lem : terms_fit l at d ≡ true
  terms_fit_lem = (and_split (terms_fit l at d) _ f).0

  pub effect-fits : (i : ℕ) → i < d * d → within max_numerator (scaled (shared_exponent (d * d) (effect_at l at d)) (effect_at l at d i)) ≡ true
  effect-fits i h = all-at (d * d) (λ (k : ℕ). within max_numerator (scaled (shared_exponent (d * d) (effect_at l at d)) (effect_at l at d k)))
      (and_split (leb (shared_exponent (d * d) (effect_at l at d)) max_exponent) _ (and_split (terms_fit l at d) _ f).1).1 i h

-- numerators that are written one after the other are the words of a full block
pub numbers-block : (d : ℕ) (z : ℕ → Number) (l : List ℤ) (at : ℕ) → with_numerators l at (d * d) z ≡ sets l at (block_words (effects d) z)
numbers-block d z l at = blocks-joined 4 (λ (k : ℕ). list_of (z k)) (λ k. refl) l at (d * d) ∙ ap (λ (ws : List ℤ). sets l at ws) (sym (full-words d z))
