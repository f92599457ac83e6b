-- Numerators shifted: their conjugates where all that is shifted out is zero, their sizes, and zeros.
use mathlib.Core.Path.{◌≡◌, refl, sym, ap, ◌∙◌}
use mathlib.Core.Bool.{Bool, true, ◌&&◌}
use mathlib.Core.List.{List}
use Prim.Native.Nat.{ℕ, zero, suc, ◌/◌, ◌%◌, ◌^◌, ◌≤◌, ◌<◌}
use native.Mathlib.Nat.{le_trans, zero-div}
use native.Mathlib.Omega.{arith}
use lib.Dec.{eqb}
use lib.IntN.{ℤ, pos, negsuc, neg_ℤ, nat_abs}
use lib.Signed.{shr_z, mag_shr}
use borrow.Author.Tests.{eqb-true}
use Rattle.algebra.specs.Quadratic.{conjugate}
use Rattle.algebra.specs.Dyadic.{halfℤ, evenℤ}
use Rattle.algebra.proofs.Parts.{abs_neg}
use Rattle.algebra.proofs.Signed.{shift_none, shift_more}
use Rattle.algebra.proofs.Tests.{and_split}
use Rattle.exact.specs.Exact.{Number, number, numbers, number_halves, root2}
use Rattle.exact.specs.Inner.Sizes.{Within}
use Rattle.exact.proofs.Zeros.{shifted}
use Rattle.share.specs.Share.{number_in}
use Rattle.hermitian.specs.Inner.Upper.{shifted_at}

-- ---- conjugates
half_up : (n : ℕ) → eqb (suc n % 2) 0 ≡ true → suc n / 2 ≡ suc (n / 2)
half_up n e = let h = eqb-true (suc n % 2) 0 e in omega arith

half_neg : (x : ℤ) → evenℤ x ≡ true → halfℤ (neg_ℤ x) ≡ neg_ℤ (halfℤ x)
half_neg (pos zero) e = refl
half_neg (pos (suc n)) e = sym (ap (λ (k : ℕ). neg_ℤ (pos k)) (half_up n e))
half_neg (negsuc n) e = ap pos (half_up n e)

shift_neg : (x : ℤ) (t : ℕ) → ((j : ℕ) → j < t → evenℤ (shr_z x (2 ^ j)) ≡ true) → shr_z (neg_ℤ x) (2 ^ t) ≡ neg_ℤ (shr_z x (2 ^ t))
shift_neg x zero ev = shift_none (neg_ℤ x) ∙ ap neg_ℤ (sym (shift_none x))
shift_neg x (suc t) ev =
    sym (shift_more (neg_ℤ x) t)
    ∙ ap halfℤ (shift_neg x t (λ j h. ev j (omega arith)))
    ∙ half_neg (shr_z x (2 ^ t)) (ev t (omega arith))
    ∙ ap neg_ℤ (shift_more x t)

pub conj_shift : (z : Number) (t : ℕ) → ((j : ℕ) → j < t → number_halves.even (shifted z j) ≡ true) → shifted (conjugate root2 z) t ≡ conjugate root2 (shifted z t)
conj_shift z t ev = λ i. number (shr_z z.re.re (2 ^ t)) (shr_z z.re.im (2 ^ t)) (shift_neg z.im.re t (λ j h. (imaginary j h).0) i) (shift_neg z.im.im t (λ j h. (imaginary j h).1) i)
  where
    imaginary : (j : ℕ) → j < t → (evenℤ (shr_z z.im.re (2 ^ j)) ≡ true) × (evenℤ (shr_z z.im.im (2 ^ j)) ≡ true)
    imaginary j h =
        let even : ℤ → Bool = λ x. evenℤ (shr_z x (2 ^ j)) in
        and_split (even z.im.re) (even z.im.im) (and_split (even z.re.re && even z.re.im) (even z.im.re && even z.im.im) (ev j h)).1

pub conj_even : (z : Number) → number_halves.even (conjugate root2 z) ≡ number_halves.even z
conj_even z = λ i. (evenℤ z.re.re && evenℤ z.re.im) && (eqb (abs_neg z.im.re i % 2) 0 && eqb (abs_neg z.im.im i % 2) 0)

-- ---- sizes
small : (x : ℤ) (t : ℕ) → nat_abs (shr_z x (2 ^ t)) ≤ nat_abs x
small (pos n) t = mag_shr (pos n) (2 ^ t)
small (negsuc n) t = omega (arith, mag_shr (negsuc n) (2 ^ t))

pub shift-within : (m : ℕ) (z : Number) (t : ℕ) → Within m z → Within m (shifted z t)
shift-within m z t w = record { w0 = le_trans (small z.re.re t) w.w0; w1 = le_trans (small z.re.im t) w.w1; w2 = le_trans (small z.im.re t) w.w2; w3 = le_trans (small z.im.im t) w.w3 }

-- ---- zeros
pub shift-zero : (l : List ℤ) (at t : ℕ) → number_in l at ≡ numbers.𝟘 → shifted_at l at t ≡ numbers.𝟘
shift-zero l at t e = ap (λ (z : Number). shifted z t) e ∙ (let none = ap pos (zero-div (2 ^ t)) in λ i. number (none i) (none i) (none i) (none i))
