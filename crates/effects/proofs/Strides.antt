-- The entry that is read for each entry that is written.
use mathlib.Core.Path.{◌≡◌, sym, ap, ◌∙◌, subst}
use mathlib.Core.Bool.{Bool, true, false, cond, not}
use mathlib.Core.List.{List, ◌∷◌}
use Prim.Native.Nat.{ℕ, ◌+◌, ◌*◌, ◌/◌, ◌%◌, ◌≤◌, ◌<◌}
use native.Mathlib.Nat.{div-lt_iff_lt-mul, mod-lt, div-add-mod'}
use native.Mathlib.Omega.{arith}
use lib.Arith.{digits_lt, digits_div, digits_mod}
use lib.IntN.{ℤ, pos}
use Rattle.std.proofs.Math.Logic.{∥∥₁_elim}
use Rattle.std.proofs.Props.{props}
use Rattle.algebra.specs.Dyadic.{frac}
use Rattle.algebra.proofs.Blocks.{blocks-same}
use Rattle.channel.specs.Shared.{Shared, shared_exponent, scaled}
use Rattle.channel.specs.Forms.{Alike}
use Rattle.channel.specs.Layout.{channels, effects, header_size, record_size, record_at, word, entry_at, effect_of}
use Rattle.channel.specs.Recast.{relink}
use Rattle.channel.proofs.Shared.{exp_le, exponent_same, shared_same}
use Rattle.channel.proofs.Restore.{block_same}
use Rattle.effects.specs.Effects.{effect_at, povm_at, record_fits, effect_shared, with_records}
use Rattle.effects.specs.Inner.Readable.{Dim}
use Rattle.effects.specs.Inner.Strides.{strided, strided_at, Strides, Effect, form_at, shared_words}
use Rattle.effects.proofs.Entries.{exponent-most}

pub strided_below : (d rows cols i : ℕ) → Strides d rows cols → i < d * d → strided d rows cols i < d * d
strided_below d rows cols i s h = s.below (i / d) (i % d) ((div-lt_iff_lt-mul s.dim.some).1 h) (mod-lt i s.dim.some)

-- ---- strides (d, 1): each entry is read where it is written
own-place : (d i : ℕ) → strided d d 1 i ≡ i
own-place d i = let q = div-add-mod' i d in omega arith

own : {d : ℕ} → Dim d → Strides d d 1
own {d} m = record { dim = m; below = λ r c p q. let t = digits_lt p q in omega arith; turn = λ k. k; inside = λ k h. h; back = λ k h. own-place d k }

-- ---- strides (1, d): rows and columns are exchanged
turned : {d : ℕ} → Dim d → Strides d 1 d
turned {d} m = record {
  dim = m;
  below = λ r c p q. let t = digits_lt q p in omega arith;
  turn = λ k. k % d * d + k / d;
  inside = λ k h. digits_lt (mod-lt k m.some) ((div-lt_iff_lt-mul m.some).1 h);
  back = λ k h.
      let q : k / d < d = (div-lt_iff_lt-mul m.some).1 h in
      (λ i. digits_div (k % d) q i * 1 + digits_mod (k % d) q i * d) ∙ by d k;
}
  where
    by : (d k : ℕ) → k % d * 1 + k / d * d ≡ k
    by d k = let q = div-add-mod' k d in omega arith

turned-place : (l : List ℤ) (at d i : ℕ) → Dim d → i < d * d → strided_at 1 d l at d i ≡ povm_at l at d i
turned-place l at d i m h =
    let q : i / d < d = (div-lt_iff_lt-mul m.some).1 h in
    let e : strided d 1 d i ≡ i % d * d + i / d = omega arith in
    ap (effect_at l at d) e ∙ (λ x. effect_of d (entry_at (channels d) l at) (digits_div (i % d) q x) (digits_mod (i % d) q x))

-- ---- the strides of both forms
pub form_strides : (textbook : Bool) {d : ℕ} → Dim d → Strides d (cond (not textbook) d 1) (cond textbook d 1)
form_strides true m = turned m
form_strides false m = own m

form-place : (textbook : Bool) (l : List ℤ) (at d i : ℕ) → Dim d → i < d * d → strided_at (cond (not textbook) d 1) (cond textbook d 1) l at d i ≡ form_at textbook l at d i
form-place true l at d i m h = turned-place l at d i m h
form-place false l at d i m h = ap (effect_at l at d) (own-place d i)

pub shared-words : (d : ℕ) (a b : Shared) → Alike (d * d) a b → shared_words d a ≡ shared_words d b
shared-words d a b h = λ i. pos (h.exp i) ∷ block_same (effects d) a.num b.num h.num i

pub form-records : (textbook : Bool) (l : List ℤ) (d n : ℕ) (res : List ℤ) → Dim d
    → with_records (strided_at (cond (not textbook) d 1) (cond textbook d 1)) l d n res ≡ with_records (form_at textbook) l d n res
form-records textbook l d n res m = blocks-same (record_size (effects d)) res header_size n _ _ (λ j h.
    let at = record_at (channels d) j in
    ap (λ (x : List ℤ). relink (channels d) (effects d) (word l at) ∷ word l (at + 1) ∷ word l (at + 2) ∷ x)
    (shared-words d _ _ (shared_same (d * d) _ _ (λ i k. form-place textbook l at d i m k))))

-- ---- the shared exponent does not depend on the order of the entries
pub strided-exponent : (l : List ℤ) (at d rows cols : ℕ) → Strides d rows cols → shared_exponent (d * d) (strided_at rows cols l at d) ≡ shared_exponent (d * d) (effect_at l at d)
strided-exponent l at d rows cols s = omega (arith, less, more)
  where
    less : shared_exponent (d * d) (strided_at rows cols l at d) ≤ shared_exponent (d * d) (effect_at l at d)
    less = exponent-most (d * d) (strided_at rows cols l at d) _ (λ k h. exp_le (d * d) (effect_at l at d) (strided d rows cols k) (strided_below d rows cols k s h))

    more : shared_exponent (d * d) (effect_at l at d) ≤ shared_exponent (d * d) (strided_at rows cols l at d)
    more = exponent-most (d * d) (effect_at l at d) _ (λ k h.
        subst (λ (x : ℕ). (effect_at l at d x).exp ≤ shared_exponent (d * d) (strided_at rows cols l at d)) (s.back k h) (exp_le (d * d) (strided_at rows cols l at d) (s.turn k) (s.inside k h)))

-- ---- an effect that can be written by these strides
module _ {l : List ℤ} {at d rows cols : ℕ} (f : ∥ Effect l at d rows cols ∥₁) where
  pub effect_fit : record_fits l at d ≡ true
  effect_fit = ∥∥₁_elim f (hlevel props) (λ e. e.fit)

  pub place_inside : (i : ℕ) → i < d * d → strided d rows cols i < d * d
  place_inside i h = ∥∥₁_elim f (hlevel props) (λ e. strided_below d rows cols i e.strides h)

  own_exponent : shared_exponent (d * d) (strided_at rows cols l at d) ≡ shared_exponent (d * d) (effect_at l at d)
  own_exponent = ∥∥₁_elim f (hlevel props) (λ e. strided-exponent l at d rows cols e.strides)

  -- the numerators over the effect's exponent are those of the form that is asked for
  pub strided-words : {e : ℕ} → e ≡ shared_exponent (d * d) (effect_at l at d)
      → shared_words d (frac (λ (i : ℕ). scaled e (strided_at rows cols l at d i)) e) ≡ shared_words d (effect_shared (strided_at rows cols) l at d)
  strided-words q = ap (λ (e : ℕ). shared_words d (frac (λ (i : ℕ). scaled e (strided_at rows cols l at d i)) e)) (q ∙ sym own_exponent)

pub povm-exponent : (l : List ℤ) (at d : ℕ) → Dim d → shared_exponent (d * d) (povm_at l at d) ≡ shared_exponent (d * d) (effect_at l at d)
povm-exponent l at d m = sym (exponent_same (d * d) (strided_at 1 d l at d) (povm_at l at d) (λ k h. turned-place l at d k m h)) ∙ strided-exponent l at d 1 d (turned m)
