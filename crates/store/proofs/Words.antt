-- Words read as numbers from 0 up: range tests and casts; a store in two words, and its bits beyond the m-th.
use mathlib.Core.Path.{◌≡◌, refl, sym, ap, ◌∙◌, subst}
use mathlib.Core.Bool.{Bool, true, false, true≢false}
use Prim.Native.Nat.{ℕ, ◌*◌, ◌/◌, ◌^◌, ◌<◌, ◌≤◌}
use native.Mathlib.Nat.{div-add-mod', mod-lt, div-eq_of_lt}
use native.Mathlib.Omega.{arith}
use lib.Dec.{T, leb, eqb, ltb}
use lib.Pow.{pow_pos}
use lib.IntN.{ℤ, pos, negsuc, nat_abs}
use lib.Signed.{lt_z, non_neg}
use mir.Syntax.{Width, w64}
use mir.Val.{Fits, SFits, to_z, of_z}
use mir.Facts.{to_z-of_z}
use borrow.Author.Tests.{ltb-false, leb-true, lt-ltb, le-ltb, eqb-true, eqb-false}
use Rattle.algebra.specs.Words.{up_to}

-- what a cast of a word asks
abbrev pub Casts : Width → ℤ → Type 0
Casts w z = T (non_neg z) × Fits w (nat_abs z)

module _ {z : ℤ} (f : SFits w64 z) where
  -- a fact of a word is one of the number that is read
  pub read : (P : ℤ → Type 0) → P z → P (to_z w64 (of_z w64 z))
  read P h = subst P (sym (to_z-of_z f)) h

-- ---- from 0 to n
pub high_up : (n : ℕ) (z : ℤ) → lt_z z (pos 0) ≡ false → leb (nat_abs z) n ≡ up_to n z
high_up n (pos a) e = refl
high_up n (negsuc a) e = absurd (subst T e tt)

pub natural : (k : ℕ) (z : ℤ) → lt_z z (pos k) ≡ false → (T (non_neg z)) × (k ≤ nat_abs z)
natural k (pos a) e = (tt, ltb-false a k e)
natural k (negsuc a) e = absurd (subst T e tt)

pub fits-abs : (z : ℤ) → SFits w64 z → T (non_neg z) → Fits w64 (nat_abs z)
fits-abs (pos a) f t = record { fits = omega (arith, f.sfits) }
fits-abs (negsuc a) f t = absurd t

pub casts_up : (n : ℕ) (z : ℤ) → SFits w64 z → up_to n z ≡ true → Casts w64 z
casts_up n (pos a) f e = (tt, fits-abs (pos a) f tt)
casts_up n (negsuc a) f e = absurd (true≢false (sym e))

pub up-abs : (n : ℕ) (z : ℤ) → up_to n z ≡ true → nat_abs z ≤ n
up-abs n (pos a) e = leb-true a n e
up-abs n (negsuc a) e = absurd (true≢false (sym e))

-- ---- bits beyond the m-th
pub no_high : (s m : ℕ) → eqb (s / 2 ^ m) 0 ≡ ltb s (2 ^ m)
no_high s m = go (eqb (s / 2 ^ m) 0) refl
  where
    go : (b : Bool) → eqb (s / 2 ^ m) 0 ≡ b → eqb (s / 2 ^ m) 0 ≡ ltb s (2 ^ m)
    go true e = e ∙ sym (lt-ltb s (2 ^ m) (by (eqb-true (s / 2 ^ m) 0 e)))
      where
        by : s / 2 ^ m ≡ 0 → s < 2 ^ m
        by z = omega (arith, div-add-mod' s (2 ^ m), mod-lt s (pow_pos m), ap (λ (k : ℕ). k * 2 ^ m) z)
    go false e = let n : ¬ (s < 2 ^ m) = λ h. eqb-false (s / 2 ^ m) 0 e (div-eq_of_lt h) in e ∙ sym (le-ltb s (2 ^ m) (omega arith))
