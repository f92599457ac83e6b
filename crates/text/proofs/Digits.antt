-- Laws of a number's digits, and of the sign in front of them.
use mathlib.Core.Path.{◌≡◌, refl, sym, ap, ◌∙◌, subst}
use mathlib.Core.Bool.{Bool, true, false, cond}
use mathlib.Core.List.{List, [], ◌∷◌, ◌++◌}
use Prim.Native.Nat.{ℕ, zero, suc, ◌+◌, ◌/◌, ◌%◌, ◌^◌, ◌<◌, ◌≤◌}
use Prim.Native.Char.{code}
use native.Mathlib.Nat.{pow-suc, mod-eq_of_lt}
use native.Mathlib.Omega.{arith}
use lib.Dec.{ltb}
use lib.IntN.{ℤ, pos, negsuc, nat_abs}
use lib.Signed.{lt_z, mag}
use mir.Syntax.{w64}
use mir.Val.{SFits, to_z, of_z}
use mir.Facts.{to_z-of_z}
use borrow.Author.Tests.{lt-ltb, le-ltb, ltb-false}
use Rattle.algebra.proofs.Signed.{is_neg, not_neg}
use Rattle.text.specs.Decimal.{digits, decimal, signed}

-- ---- digits
module _ (n : ℕ) where
  abbrev last : List ℕ
  last = (48 + n % 10) ∷ []

  abbrev joins : List ℕ → Bool → List ℕ
  joins xs t = cond t ((48 + n) ∷ []) (xs ++ last)

  joins-same : (t : Bool) (xs ys : List ℕ) → (t ≡ false → xs ≡ ys) → joins xs t ≡ joins ys t
  joins-same true xs ys e = refl
  joins-same false xs ys e = ap (λ (zs : List ℕ). zs ++ last) (e refl)

-- a place more than there are digits says nothing
digits_more : (k n : ℕ) → n < 10 ^ suc k → digits (suc (suc k)) n ≡ digits (suc k) n
unfolding digits
digits_more zero n h = joins-same n (ltb n 10) (digits 1 (n / 10)) [] (λ f. absurd (omega (arith, ltb-false n 10 f)))
digits_more (suc k) n h = joins-same n (ltb n 10) (digits (suc (suc k)) (n / 10)) (digits (suc k) (n / 10)) (λ f. digits_more k (n / 10) (omega (arith, pow-suc 10 (suc k))))

pub decimal-one : (n : ℕ) → n < 10 → decimal n ≡ (48 + n % 10) ∷ []
unfolding digits
decimal-one n h = ap (joins n (digits 19 (n / 10))) (lt-ltb n 10 h) ∙ ap (λ (k : ℕ). (48 + k) ∷ []) (sym (mod-eq_of_lt h))

-- all digits but the last, then the last
pub decimal-more : (n : ℕ) → 10 ≤ n → n < 2 ^ 64 → decimal n ≡ decimal (n / 10) ++ last n
unfolding digits
decimal-more n g h = ap (joins n (digits 19 (n / 10))) (le-ltb n 10 g) ∙ ap (λ (xs : List ℕ). xs ++ last n) (sym (digits_more 18 (n / 10) (omega arith)))

-- ---- numbers below zero
module _ (z : ℤ) (f : SFits w64 z) (e : lt_z (to_z w64 (of_z w64 z)) (pos 0) ≡ true) where
  below : z ≡ negsuc (mag z)
  below = is_neg z (subst (λ (x : ℤ). lt_z x (pos 0) ≡ true) (to_z-of_z f) e)

  pub signed_below : code "-" ∷ decimal (nat_abs z) ≡ signed z
  signed_below = ap (λ (x : ℤ). code "-" ∷ decimal (nat_abs x)) below ∙ ap signed (sym below)

pub signed_natural : (z : ℤ) → SFits w64 z → lt_z (to_z w64 (of_z w64 z)) (pos 0) ≡ false → decimal (nat_abs z) ≡ signed z
signed_natural z f e = ap signed (sym (not_neg z (subst (λ (x : ℤ). lt_z x (pos 0) ≡ false) (to_z-of_z f) e)))
