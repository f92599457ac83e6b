-- The lowest form by one shift: as far as the trailing zeros that all four numerators share.
use mathlib.Core.Path.{◌≡◌, sym, ap, ◌∙◌, subst}
use mathlib.Core.Bool.{Bool, true, cond}
use Prim.Native.Nat.{ℕ, zero, suc, ◌/◌, ◌-◌, ◌%◌, ◌^◌, min, ◌≤◌, ◌<◌}
use native.Mathlib.Decide.{dec_lt}
use native.Mathlib.Nat.{sub-zero}
use native.Mathlib.Omega.{arith}
use lib.Dec.{eqb}
use lib.Bits.{bit_or}
use lib.Count.{count_trailing_zeros}
use lib.IntN.{ℤ}
use lib.Signed.{shr_z}
use mir.Syntax.{w64}
use mir.Val.{SFits, of_z}
use borrow.Author.Tests.{eq-eqb, ne_eqb}
use Rattle.algebra.specs.Dyadic.{frac}
use Rattle.algebra.proofs.Quadratic.{ℤ√2i}
use Rattle.algebra.proofs.Dyadic.{low-odd}
use Rattle.algebra.proofs.Signed.{zeros-low, zeros-top, masked, shifted-digit, or_digit, shift_none, shift_more}
use Rattle.exact.specs.Exact.{Number, number, number_halves, lowest}
use Rattle.exact.proofs.Exact.{exact_halving}

-- each numerator `>> k`
abbrev pub shifted : Number → ℕ → Number
shifted z k = number (shr_z z.re.re (2 ^ k)) (shr_z z.re.im (2 ^ k)) (shr_z z.im.re (2 ^ k)) (shr_z z.im.im (2 ^ k))

pub lowest_shift : (z : Number) (e k : ℕ) → k ≤ e → ((j : ℕ) → j < k → number_halves.even (shifted z j) ≡ true) → lowest z e ≡ lowest (shifted z k) (e - k)
lowest_shift z e zero h ev =
    λ i. lowest (number (sym (shift_none z.re.re) i) (sym (shift_none z.re.im) i) (sym (shift_none z.im.re) i) (sym (shift_none z.im.im) i)) (sym (sub-zero e) i)
lowest_shift z e (suc k) h ev =
    lowest_shift z e k (omega arith) (λ j l. ev j (omega arith))
    ∙ ap (lowest (shifted z k)) less
    ∙ ap (λ (b : Bool). cond b (lowest (number_halves.half (shifted z k)) (e - suc k)) (frac (shifted z k) (suc (e - suc k)))) (ev k (omega arith))
    ∙ (λ i. lowest (number (shift_more z.re.re k i) (shift_more z.re.im k i) (shift_more z.im.re k i) (shift_more z.im.im k i)) (e - suc k))
  where
    less : e - k ≡ suc (e - suc k)
    less = omega arith

-- the bits that are set in one of the four
abbrev pub union : ℤ → ℤ → ℤ → ℤ → ℕ
union a b c d = bit_or (bit_or (of_z w64 a) (of_z w64 b)) (bit_or (of_z w64 c) (of_z w64 d))

-- ---- by the count t of the zeros
module _ (a b c d : ℤ) (e t : ℕ) (fa : SFits w64 a) (fb : SFits w64 b) (fc : SFits w64 c) (fd : SFits w64 d) (small : e ≤ 63)
    (count : t ≡ count_trailing_zeros 64 (union a b c d % 2 ^ 63)) where
  abbrev z : Number
  z = number a b c d

  abbrev m : ℕ
  m = union a b c d % 2 ^ 63

  abbrev Shifts : ℕ → Type 0
  Shifts k = lowest z e ≡ frac (shifted z k) (e - k)

  -- the four are even after a shift where the bit of their union is 0
  digit : (j : ℕ) → j < 63 → eqb (m / 2 ^ j % 2) 0 ≡ number_halves.even (shifted z j)
  digit j h =
      ap (λ (n : ℕ). eqb n 0) (masked (union a b c d) j h)
      ∙ rw (or_digit, or_digit, or_digit, shifted-digit a j fa (omega arith), shifted-digit b j fb (omega arith), shifted-digit c j fc (omega arith), shifted-digit d j fd (omega arith))

  evens : (k : ℕ) → k ≤ t → k ≤ e → (j : ℕ) → j < k → number_halves.even (shifted z j) ≡ true
  evens k p q j h = sym (digit j (omega arith)) ∙ eq-eqb _ _ (zeros-low 64 m j (omega arith))

  stops_odd : t < e → Shifts t
  stops_odd h =
      lowest_shift z e t (omega arith) (evens t (omega arith) (omega arith))
      ∙ low-odd ℤ√2i exact_halving (shifted z t) (e - t) (sym (digit t (omega arith)) ∙ ne_eqb _ _ top)
    where
      top : m / 2 ^ t % 2 ≡ 0 → ⊥
      top q = zeros-top 64 m (omega arith) (subst (λ (k : ℕ). m / 2 ^ k % 2 ≡ 0) count q)

  stops_whole : e ≤ t → Shifts e
  stops_whole h = lowest_shift z e e (omega arith) (evens e h (omega arith)) ∙ ap (lowest (shifted z e)) none ∙ sym (ap (frac (shifted z e)) none)
    where
      none : e - e ≡ 0
      none = omega arith

  pub by_count : lowest z e ≡ frac (shifted z (min t e)) (e - min t e)
  by_count = go (dec_lt t e)
    where
      go : Dec (t < e) → Shifts (min t e)
      go (yes h) = let p : t ≡ min t e = omega arith in subst Shifts p (stops_odd h)
      go (no h) = let p : e ≡ min t e = omega arith in subst Shifts p (stops_whole (omega arith))
