-- The words of n numbers: their bits, and their shifts.
use mathlib.Core.Path.{◌≡◌, refl, sym, ap, ◌∙◌, subst}
use mathlib.Core.Bool.{Bool, true, false, ◌&&◌}
use mathlib.Core.List.{List, [], ◌∷◌}
use Prim.Native.Nat.{ℕ, zero, suc, ◌+◌, ◌*◌, ◌-◌, ◌/◌, ◌%◌, ◌^◌, min, ◌<◌, ◌≤◌}
use native.Mathlib.Nat.{suc-mul, zero-mul, div-eq_of_lt}
use native.Mathlib.Omega.{arith}
use lib.Bits.{bit_or, or_zero_r}
use lib.Dec.{eqb}
use lib.Pow.{pow_pos}
use lib.Count.{count_trailing_zeros}
use lib.IntN.{ℤ}
use lib.Seq.{sets}
use lib.Signed.{shr_z}
use mir.Syntax.{w64}
use mir.Val.{SFits, of_z}
use borrow.Author.Tests.{eq-eqb}
use Rattle.algebra.specs.Words.{fill_words, joined}
use Rattle.algebra.specs.Dyadic.{frac, evenℤ}
use Rattle.algebra.proofs.Blocks.{blocks-joined, blocks-same, joined-rows}
use Rattle.algebra.proofs.Signed.{shifted-digit, or_digit}
use Rattle.exact.specs.Exact.{Number, number, list_of, number_halves}
use Rattle.exact.proofs.Zeros.{shifted}
use Rattle.channel.specs.Layout.{word}
use Rattle.channel.specs.Shared.{all_halves}
use Rattle.channel.specs.Forms.{Alike}
use Rattle.channel.proofs.Shared.{reduced_is}
use Rattle.channel.proofs.Zeros.{by-zeros}
use Rattle.share.specs.Share.{number_in, with_numerators, shared_from, or_words}
use Rattle.share.proofs.Numbers.{numbers-there}

and-assoc : (a b c : Bool) → ((a && b) && c) ≡ (a && (b && c))
and-assoc true b c = refl
and-assoc false b c = refl

and_true : (a : Bool) → (a && true) ≡ a
and_true true = refl
and_true false = refl

-- no bits
pub none-set : (j : ℕ) → eqb (0 / 2 ^ j % 2) 0 ≡ true
none-set j = eq-eqb _ 0 (ap (λ (k : ℕ). k % 2) (div-eq_of_lt (pow_pos j)))

module _ (l : List ℤ) (at : ℕ) where
  -- the digit j of the bits is 0 where all words have it so
  digit-of : (j i : ℕ) → SFits w64 (word l (at + i)) → j < 63 → eqb (of_z w64 (word l (at + i)) / 2 ^ j % 2) 0 ≡ evenℤ (shr_z (word l (at + i)) (2 ^ j))
  digit-of j i f h = ap (λ (k : ℕ). eqb k 0) (shifted-digit (word l (at + i)) j f (omega arith))

  digits_more : (g j n : ℕ) → j < 63 → ((i : ℕ) → i < n + 4 → SFits w64 (word l (at + i)))
      → eqb (or_words g l at (n + 4) / 2 ^ j % 2) 0 ≡ (eqb (or_words g l at n / 2 ^ j % 2) 0 && number_halves.even (shifted (number_in l (at + n)) j))
  digits_more g j n h f =
      ap (λ (k : ℕ). eqb (or_words g l at k / 2 ^ j % 2) 0) (by n)
      ∙ or_digit (bit_or (bit_or (bit_or (or_words g l at n) (w n)) (w (suc n))) (w (suc (suc n)))) (w (suc (suc (suc n)))) j
      ∙ ap (λ (b : Bool). b && e (suc (suc (suc n)))) (or_digit (bit_or (bit_or (or_words g l at n) (w n)) (w (suc n))) (w (suc (suc n))) j
      ∙ ap (λ (b : Bool). b && e (suc (suc n))) (or_digit (bit_or (or_words g l at n) (w n)) (w (suc n)) j
      ∙ ap (λ (b : Bool). b && e (suc n)) (or_digit (or_words g l at n) (w n) j)))
      ∙ (λ i. (((d && t n refl (omega arith) i) && t (suc n) (one at n) (omega arith) i) && t (suc (suc n)) (two at n) (omega arith) i) && t (suc (suc (suc n))) (three at n) (omega arith) i)
      ∙ assoc d (v (at + n)) (v (at + n + 1)) (v (at + n + 2)) (v (at + n + 3))
    where
      w : ℕ → ℕ
      w i = of_z w64 (word l (at + i))

      e : ℕ → Bool
      e i = eqb (w i / 2 ^ j % 2) 0

      d : Bool
      d = eqb (or_words g l at n / 2 ^ j % 2) 0

      v : ℕ → Bool
      v i = evenℤ (shr_z (word l i) (2 ^ j))

      t : (k : ℕ) {i : ℕ} → at + k ≡ i → k < n + 4 → e k ≡ v i
      t k q p = digit-of j k (f k p) h ∙ ap v q

      by : (n : ℕ) → n + 4 ≡ suc (suc (suc (suc n)))
      by n = omega arith

      one : (a n : ℕ) → a + suc n ≡ a + n + 1
      one a n = omega arith

      two : (a n : ℕ) → a + suc (suc n) ≡ a + n + 2
      two a n = omega arith

      three : (a n : ℕ) → a + suc (suc (suc n)) ≡ a + n + 3
      three a n = omega arith

      assoc : (d a b c e : Bool) → ((((d && a) && b) && c) && e) ≡ (d && ((a && b) && (c && e)))
      assoc true true true c e = refl
      assoc true true false c e = refl
      assoc true false b c e = refl
      assoc false a b c e = refl

  -- g and n numbers
  pub digits : (g j n : ℕ) → j < 63 → ((i : ℕ) → i < n * 4 → SFits w64 (word l (at + i)))
      → eqb (or_words g l at (n * 4) / 2 ^ j % 2) 0 ≡ (eqb (g / 2 ^ j % 2) 0 && (all_halves n).even (λ (k : ℕ). shifted (number_in l (at + k * 4)) j))
  digits g j zero h f = ap (λ (k : ℕ). eqb (or_words g l at k / 2 ^ j % 2) 0) (zero-mul 4) ∙ sym (and_true (eqb (g / 2 ^ j % 2) 0))
  digits g j (suc n) h f =
      ap (λ (k : ℕ). eqb (or_words g l at k / 2 ^ j % 2) 0) (suc-mul n 4)
      ∙ digits_more g j (n * 4) h (λ i p. f i (omega (arith, suc-mul n 4)))
      ∙ ap (λ (b : Bool). b && number_halves.even (shifted (number_in l (at + n * 4)) j)) (digits g j n h (λ i p. f i (omega (arith, suc-mul n 4))))
      ∙ and-assoc (eqb (g / 2 ^ j % 2) 0) ((all_halves n).even (λ (k : ℕ). shifted (number_in l (at + k * 4)) j)) (number_halves.even (shifted (number_in l (at + n * 4)) j))

  -- the words of the shifts are the shifts of the words
  pub shifts_are : (n t : ℕ) → fill_words l at (n * 4) (λ (i : ℕ). shr_z (word l (at + i)) (2 ^ t)) ≡ with_numerators l at n (λ (k : ℕ). shifted (number_in l (at + k * 4)) t)
  unfolding joined
  shifts_are n t =
      blocks-joined 1 (λ (i : ℕ). shr_z (word l (at + i)) (2 ^ t) ∷ []) (λ i. refl) l at (n * 4)
      ∙ ap (λ (ws : List ℤ). sets l at ws) (sym (joined-rows n 4 (λ (i : ℕ). shr_z (word l (at + i)) (2 ^ t) ∷ [])))
      ∙ sym (blocks-joined 4 (λ (k : ℕ). list_of (shifted (entry k) t)) (λ k. refl) l at n)
      ∙ blocks-same 4 l at n _ _ (λ k h. ap (λ (z : Number). list_of (shifted z t)) (entry-is k))
    where
      entry : ℕ → Number
      entry k = number (word l (at + (k * 4 + 0))) (word l (at + (k * 4 + 1))) (word l (at + (k * 4 + 2))) (word l (at + (k * 4 + 3)))

      first : (a k : ℕ) → a + (k * 4 + 0) ≡ a + k * 4
      first a k = omega arith

      later : (a k j : ℕ) → a + (k * 4 + j) ≡ a + k * 4 + j
      later a k j = omega arith

      entry-is : (k : ℕ) → entry k ≡ number_in l (at + k * 4)
      entry-is k = λ i. number (word l (first at k i)) (word l (later at k 1 i)) (word l (later at k 2 i)) (word l (later at k 3 i))

  -- shifted as far as all numbers allow, they are the shared form
  pub share_is : (n e t : ℕ) → ((i : ℕ) → i < n * 4 → SFits w64 (word l (at + i))) → e ≤ 63 → t ≡ count_trailing_zeros 64 (or_words 0 l at (n * 4) % 2 ^ 63)
      → Alike n (frac (λ (k : ℕ). shifted (number_in l (at + k * 4)) (min t e)) (e - min t e)) (shared_from l at n e)
  share_is n e t f h q = by-zeros n e t (or_words 0 l at (n * 4)) (λ (k : ℕ). number_in l (at + k * 4)) (λ j p. digits 0 j n p f ∙ ap (λ (b : Bool). b && (all_halves n).even (λ (k : ℕ). shifted (number_in l (at + k * 4)) j)) (none-set j)) h q

  pub numerators_are : (n e t : ℕ) → Alike n (frac (λ (k : ℕ). shifted (number_in l (at + k * 4)) t) (e - t)) (shared_from l at n e)
      → with_numerators l at n (λ (k : ℕ). shifted (number_in l (at + k * 4)) t) ≡ with_numerators l at n (shared_from l at n e).num
  numerators_are n e t a = blocks-same 4 l at n _ _ (λ k h. ap list_of (a.num k h))

  -- what is not shifted stands there already
  pub stands : (n e f : ℕ) → Alike n (frac (λ (k : ℕ). number_in l (at + k * 4)) f) (shared_from l at n e) → l ≡ with_numerators l at n (shared_from l at n e).num
  stands n e f a = sym (numbers-there l at n (shared_from l at n e).num (λ i p. sym (a.num i p)))

  -- numbers over 1
  pub over_one : (n e : ℕ) → e ≡ 0 → Alike n (frac (λ (k : ℕ). number_in l (at + k * 4)) 0) (shared_from l at n e)
  over_one n e h = subst (λ (k : ℕ). Alike n (frac (λ (k : ℕ). number_in l (at + k * 4)) 0) (shared_from l at n k)) (sym h) (reduced_is n 0 (λ (k : ℕ). number_in l (at + k * 4)))

-- a word beside zeros
pub alone : (n : ℕ) → bit_or (bit_or n 0) (bit_or 0 0) ≡ n
alone n = or_zero_r (bit_or n 0) ∙ or_zero_r n
