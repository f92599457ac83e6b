-- Words of 64 bits: numbers read back from bits, range tests, parity, halves and powers of two by shifts, zero and equality, casts.
use mathlib.Core.Path.{◌≡◌, refl, sym, ap, ◌∙◌, subst}
use mathlib.Core.Bool.{Bool, true, false, not, ◌&&◌}
use mathlib.Core.Logic.{◌⊎◌, inl, inr}
use Prim.Native.Nat.{ℕ, zero, suc, ◌+◌, ◌*◌, ◌-◌, ◌/◌, ◌%◌, ◌^◌, ◌≤◌, ◌<◌}
use native.Mathlib.Nat.{le_trans, le_of_eq, lt_of_le_of_lt, one-mul, div-one, pow-suc, mul-sub, mul-le-mul, le_refl, suc-mul, div-add-mod', mod-lt, mul_comm, le-div_iff_mul-le, div-div-eq-div-mul, not-suc-le-zero, le_of_suc-le-suc}
use native.Mathlib.Numerals.{add-one}
use native.Mathlib.Omega.{arith}
use lib.Dec.{T, leb, eqb, lit<}
use lib.Pow.{shl_exact, pow_mono, pow_pos, pow-add, high, field, mod-mod-pow, shr-shr, shr_lt}
use lib.Bits.{bit_and, bit_or, and_mask, or_mod, or_shr, or_zero_l, or_add_and, and_le_l, and_le_r, shifted_even}
use lib.Count.{count_trailing_zeros, under}
use lib.IntN.{ℤ, pos, negsuc, neg_ℤ, nat_abs, ◌+ℤ◌, ◌-ℤ◌, ◌*ℤ◌, +ℤ_idl, +ℤ-neg_ℤ_cancel}
use lib.Signed.{mag, lt_z, non_neg, shr_z, mag_shr}
use mir.Syntax.{Width, w64}
use mir.Val.{Fits, SFits, to_z, of_z}
use mir.Facts.{to_z-of_z, to_z_pos}
use borrow.Author.Tests.{ltb-true, ltb-false, leb-true, eqb-true, eqb-false, eq-eqb, ne_eqb}
use Rattle.algebra.specs.Dyadic.{halfℤ}
use Rattle.algebra.specs.Words.{eqℤ, up_to}
use Rattle.algebra.proofs.Parts.{abs_is, add_parts, abs-mul, abs_sub, sfits_abs, abs_neg}
use Rattle.algebra.proofs.Tests.{leb_same, eqb_same}

-- ---- what is written is read back
pub reads : (z : ℤ) → mag z < 2 ^ 63 → to_z w64 (of_z w64 z) ≡ z
reads z h = to_z-of_z {w = w64} (record { sfits = h })

pub back : (z : ℤ) → nat_abs z < 2 ^ 63 → to_z w64 (of_z w64 z) ≡ z
back z h = to_z-of_z (sfits_abs {w = w64} h)

-- `-x`
pub neg_fits : (x : ℤ) → nat_abs x < 2 ^ 63 → SFits w64 (pos 0 -ℤ to_z w64 (of_z w64 x))
neg_fits x b = rw (back x b, +ℤ_idl) (sfits_abs {w = w64} (omega (arith, abs_neg x)))

pub neg_back : (x : ℤ) → nat_abs x < 2 ^ 63 → to_z w64 (of_z w64 (pos 0 -ℤ to_z w64 (of_z w64 x))) ≡ neg_ℤ x
neg_back x b = rw (back x b, +ℤ_idl) (back (neg_ℤ x) (omega (arith, abs_neg x)))

-- ---- tests of a number against a bound, as code makes them: x < −k, k < x, x < 0
no : false ≡ true → ⊥
no e = subst (λ (b : Bool). T (not b)) e tt

pub over : (x : ℤ) (n : ℕ) → lt_z (pos n) x ≡ true → n < nat_abs x
over (pos a) n e = ltb-true n a e
over (negsuc a) n e = absurd (no e)

pub within : (x : ℤ) (k : ℕ) → lt_z x (neg_ℤ (pos k)) ≡ false → lt_z (pos k) x ≡ false → nat_abs x ≤ k
within (pos a) k e f = ltb-false k a f
within (negsuc a) zero e f = absurd (subst T e tt)
within (negsuc a) (suc n) e f = omega (arith, ltb-false n a e)

pub not_neg : (x : ℤ) → lt_z x (pos 0) ≡ false → x ≡ pos (nat_abs x)
not_neg (pos a) e = refl
not_neg (negsuc a) e = absurd (subst T e tt)

pub is_neg : (x : ℤ) → lt_z x (pos 0) ≡ true → x ≡ negsuc (mag x)
is_neg (pos a) e = absurd (omega (arith, ltb-true a 0 e))
is_neg (negsuc a) e = refl

-- ---- parity: the low bit
pub and_one : (n : ℕ) → bit_and n 1 ≡ n % 2
and_one n = and_mask n 1

pub bit-parity : (z : ℤ) → SFits w64 z → of_z w64 z % 2 ≡ nat_abs z % 2
bit-parity (pos n) f = refl
bit-parity (negsuc n) f = go f.sfits
  where
    go : n < 2 ^ 63 → (2 ^ 64 - suc n) % 2 ≡ suc n % 2
    go h = omega arith

pub bit2 : (p : ℕ) → (p % 2 ≡ 0) ⊎ (p % 2 ≡ 1)
bit2 p = go (eqb (p % 2) 0) refl
  where
    go : (b : Bool) → eqb (p % 2) 0 ≡ b → (p % 2 ≡ 0) ⊎ (p % 2 ≡ 1)
    go true e = inl (eqb-true (p % 2) 0 e)
    go false e = inr (one_is (eqb-false (p % 2) 0 e))
      where
        one_is : (p % 2 ≡ 0 → ⊥) → p % 2 ≡ 1
        one_is ne = omega arith

-- `x | y` is even where both are
pub or_even : (x y : ℕ) → eqb (bit_or x y % 2) 0 ≡ (eqb (x % 2) 0 && eqb (y % 2) 0)
or_even x y = ap (λ (n : ℕ). eqb n 0) (or_mod x y 1) ∙ cases (x % 2) (y % 2) (bit2 x) (bit2 y)
  where
    cases : (p q : ℕ) → (p ≡ 0) ⊎ (p ≡ 1) → (q ≡ 0) ⊎ (q ≡ 1) → eqb (bit_or p q) 0 ≡ (eqb p 0 && eqb q 0)
    cases p q (inl e) (inl f) = rw (e, f)
    cases p q (inl e) (inr f) = rw (e, f)
    cases p q (inr e) (inl f) = rw (e, f)
    cases p q (inr e) (inr f) = rw (e, f)

pub parity-add : (x y : ℤ) → nat_abs (x +ℤ y) % 2 ≡ (nat_abs x + nat_abs y) % 2
parity-add x y = omega (arith, abs_is x, abs_is y, abs_is (x +ℤ y), add_parts x y)

-- a multiple of 2^d is even, for d from 1 up
pub scaled-even : (x : ℤ) (d : ℕ) → 0 < d → nat_abs (x *ℤ pos (2 ^ d)) % 2 ≡ 0
scaled-even x zero h = absurd (omega arith)
scaled-even x (suc d) h = ap (λ (n : ℕ). n % 2) (abs-mul x (pos (2 ^ suc d))) ∙ shifted_even (nat_abs x) d

-- a sum is no smaller than its first term, but for its second
pub abs-left : (x y : ℤ) → nat_abs x ≤ nat_abs (x +ℤ y) + nat_abs y
abs-left x y = omega (arith, abs_sub (x +ℤ y) y, ap nat_abs (+ℤ-neg_ℤ_cancel x y))

-- ---- shifts to the right
pub sfits_shr : {w : Width} (z : ℤ) (m : ℕ) → SFits w z → SFits w (shr_z z m)
sfits_shr z m f = record { sfits = lt_of_le_of_lt (mag_shr z m) f.sfits }

pub shift_back : (z : ℤ) (p : ℕ) → SFits w64 z → to_z w64 (of_z w64 (shr_z (to_z w64 (of_z w64 z)) p)) ≡ shr_z z p
shift_back z p f = rw (to_z-of_z f) (to_z-of_z (sfits_shr {w = w64} z p f))

pub shift_none : (z : ℤ) → shr_z z 1 ≡ z
shift_none (pos n) = ap pos (div-one n)
shift_none (negsuc n) = ap negsuc (div-one n)

pub shift_more : (z : ℤ) (k : ℕ) → halfℤ (shr_z z (2 ^ k)) ≡ shr_z z (2 ^ suc k)
shift_more (pos n) k = ap pos (shr-shr n k 1 ∙ ap (λ (j : ℕ). n / 2 ^ j) (add-one k))
shift_more (negsuc n) k = ap negsuc (shr-shr n k 1 ∙ ap (λ (j : ℕ). n / 2 ^ j) (add-one k))

-- ---- powers of two: `1i64 << d`
pub pow_word : (d : ℕ) → d ≤ 62 → to_z w64 (1 * 2 ^ d % 18446744073709551616) ≡ pos (2 ^ d)
pow_word d h = rw (shl_exact 1 d 64 (lit< tt) (omega arith), one-mul) (to_z_pos w64 (lt_of_le_of_lt (pow_mono h) (lit< tt)))

-- x * (1i64 << d)
module _ (x : ℤ) (d : ℕ) (bx : mag x < 2 ^ 63) (hd : d ≤ 62) (h : nat_abs (x *ℤ pos (2 ^ d)) < 2 ^ 63) where
  pub scale_back : to_z w64 (of_z w64 (to_z w64 (of_z w64 x) *ℤ to_z w64 (1 * 2 ^ d % 18446744073709551616))) ≡ x *ℤ pos (2 ^ d)
  scale_back = rw (reads x bx, pow_word d hd) (back (x *ℤ pos (2 ^ d)) h)

-- x times 2^d is at most m where x is at most `m >> d`
pub limit : (x : ℤ) (m d : ℕ) → leb (nat_abs x) (m / 2 ^ d) ≡ leb (nat_abs (x *ℤ pos (2 ^ d))) m
limit x m d =
    leb_same (nat_abs x) (m / 2 ^ d) (nat_abs (x *ℤ pos (2 ^ d))) m
    (λ h. le_trans (le_of_eq (abs-mul x (pos (2 ^ d)))) ((le-div_iff_mul-le (pow_pos d)).0 h))
    (λ h. (le-div_iff_mul-le (pow_pos d)).1 (le_trans (le_of_eq (sym (abs-mul x (pos (2 ^ d))))) h))

-- ---- bits, one by one
pub digit-suc : (n i : ℕ) → n / 2 ^ suc i ≡ n / 2 / 2 ^ i
digit-suc n i = ap (λ (p : ℕ). n / p) (pow-suc 2 i ∙ mul_comm (2 ^ i) 2) ∙ sym (div-div-eq-div-mul n 2 (2 ^ i))

-- the trailing zeros are zeros, and no more are
pub zeros-low : (d n j : ℕ) → j < count_trailing_zeros d n → n / 2 ^ j % 2 ≡ 0
unfolding count_trailing_zeros
zeros-low zero n j h = absurd (not-suc-le-zero h)
zeros-low (suc d) n j h = go (n % 2) refl j h (λ i. zeros-low d (n / 2) i)
  where
    go : (r : ℕ) → n % 2 ≡ r → (j : ℕ) → j < under r (count_trailing_zeros d (n / 2)) → ((i : ℕ) → i < count_trailing_zeros d (n / 2) → n / 2 / 2 ^ i % 2 ≡ 0) → n / 2 ^ j % 2 ≡ 0
    go zero e zero h ih = ap (λ (x : ℕ). x % 2) (div-one n) ∙ e
    go zero e (suc i) h ih = ap (λ (x : ℕ). x % 2) (digit-suc n i) ∙ ih i (le_of_suc-le-suc h)
    go (suc r) e j h ih = absurd (not-suc-le-zero h)

pub zeros-top : (d n : ℕ) → count_trailing_zeros d n < d → n / 2 ^ count_trailing_zeros d n % 2 ≡ 0 → ⊥
unfolding count_trailing_zeros
zeros-top zero n h = absurd (not-suc-le-zero h)
zeros-top (suc d) n h = go (n % 2) refl h (zeros-top d (n / 2))
  where
    go : (r : ℕ) → n % 2 ≡ r → under r (count_trailing_zeros d (n / 2)) < suc d → (count_trailing_zeros d (n / 2) < d → n / 2 / 2 ^ count_trailing_zeros d (n / 2) % 2 ≡ 0 → ⊥) → n / 2 ^ under r (count_trailing_zeros d (n / 2)) % 2 ≡ 0 → ⊥
    go zero e h ih z = ih (le_of_suc-le-suc h) (sym (ap (λ (x : ℕ). x % 2) (digit-suc n (count_trailing_zeros d (n / 2)))) ∙ z)
    go (suc r) e h ih z = odd (sym (ap (λ (x : ℕ). x % 2) (div-one n)) ∙ z)
      where
        odd : n % 2 ≡ 0 → ⊥
        odd z = omega arith

-- a bit below the sign's
pub masked : (m j : ℕ) → j < 63 → m % 2 ^ 63 / 2 ^ j % 2 ≡ m / 2 ^ j % 2
masked m j h = ap (λ (k : ℕ). m % 2 ^ k / 2 ^ j % 2) split ∙ ap (λ (x : ℕ). x % 2) (field m (62 - j + 1) j) ∙ mod-mod-pow (m / 2 ^ j) (62 - j) 1
  where
    split : 63 ≡ 62 - j + 1 + j
    split = omega arith

-- the bits of 2^(i + k) − (n + 1) from k up
flipped : (n k i : ℕ) → n < 2 ^ (suc i + k) → (2 ^ (suc i + k) - suc n) / 2 ^ k % 2 ≡ suc (n / 2 ^ k) % 2
flipped n k i h =
    ap (λ (x : ℕ). x / 2 ^ k % 2) whole ∙ ap (λ (x : ℕ). x % 2) (high (2 ^ suc i - suc (n / 2 ^ k)) k rest) ∙ parity
  where
    minus : (a b p : ℕ) → (a - b) * p ≡ a * p - b * p
    minus a b p = mul_comm (a - b) p ∙ mul-sub p a b ∙ (λ i. mul_comm p a i - mul_comm p b i)

    q : n / 2 ^ k < 2 ^ suc i
    q = shr_lt (suc i) k h

    r : n % 2 ^ k < 2 ^ k
    r = mod-lt n (pow_pos k)

    rest : 2 ^ k - suc (n % 2 ^ k) < 2 ^ k
    rest = omega (arith, r)

    whole : 2 ^ (suc i + k) - suc n ≡ (2 ^ suc i - suc (n / 2 ^ k)) * 2 ^ k + (2 ^ k - suc (n % 2 ^ k))
    whole =
        let p = pow-add 2 (suc i) k in
        let s = minus (2 ^ suc i) (suc (n / 2 ^ k)) (2 ^ k) in
        let t = suc-mul (n / 2 ^ k) (2 ^ k) in
        let u = div-add-mod' n (2 ^ k) in
        let m : suc (n / 2 ^ k) * 2 ^ k ≤ 2 ^ suc i * 2 ^ k = mul-le-mul q (le_refl (2 ^ k)) in
        omega (arith, p, s, t, u, r, h)

    parity : (2 ^ suc i - suc (n / 2 ^ k)) % 2 ≡ suc (n / 2 ^ k) % 2
    parity = let p = pow-suc 2 i in omega (arith, p, q)

-- bit k of a number is the low bit of `z >> k`
pub shifted-digit : (z : ℤ) (k : ℕ) → SFits w64 z → k < 64 → of_z w64 z / 2 ^ k % 2 ≡ nat_abs (shr_z z (2 ^ k)) % 2
shifted-digit (pos n) k f h = refl
shifted-digit (negsuc n) k f h =
    ap (λ (w : ℕ). (2 ^ w - suc n) / 2 ^ k % 2) split ∙ flipped n k (63 - k) (small f.sfits)
  where
    split : 64 ≡ suc (63 - k) + k
    split = omega arith

    small : n < 2 ^ 63 → n < 2 ^ (suc (63 - k) + k)
    small l = subst (λ (w : ℕ). n < 2 ^ w) split (omega arith)

pub or_digit : (x y k : ℕ) → eqb (bit_or x y / 2 ^ k % 2) 0 ≡ (eqb (x / 2 ^ k % 2) 0 && eqb (y / 2 ^ k % 2) 0)
or_digit x y k = ap (λ (n : ℕ). eqb (n % 2) 0) (or_shr x y k) ∙ or_even (x / 2 ^ k) (y / 2 ^ k)

-- ---- zero, and equality
pub or_zero : (x y : ℕ) → eqb (bit_or x y) 0 ≡ (eqb x 0 && eqb y 0)
or_zero zero y = ap (λ (n : ℕ). eqb n 0) (or_zero_l y)
or_zero (suc x) y =
    ne_eqb (bit_or (suc x) y) 0 (λ e. clash (omega (arith, e, or_add_and (suc x) y, and_le_l (suc x) y, and_le_r (suc x) y)))
    ∙ sym (ap (λ (b : Bool). b && eqb y 0) (ne_eqb (suc x) 0 clash))
  where
    clash : suc x ≡ 0 → ⊥
    clash e = omega arith

pub word-zero : (z : ℤ) → mag z < 2 ^ 63 → eqb (of_z w64 z) 0 ≡ eqb (nat_abs z) 0
word-zero (pos n) h = refl
word-zero (negsuc n) h = ne_eqb (2 ^ 64 - suc n) 0 (λ e. clash e) ∙ sym (ne_eqb (suc n) 0 (λ e. omega arith))
  where
    clash : 2 ^ 64 - suc n ≡ 0 → ⊥
    clash e = omega arith

pub abs-zero : (z : ℤ) → eqb (nat_abs z) 0 ≡ true → z ≡ pos 0
abs-zero (pos n) e = ap pos (eqb-true n 0 e)
abs-zero (negsuc n) e = absurd (omega (arith, eqb-true (suc n) 0 e))

pub eqℤ-true : (x y : ℤ) → eqℤ x y ≡ true → x ≡ y
eqℤ-true (pos a) (pos b) e = ap pos (eqb-true a b e)
eqℤ-true (pos a) (negsuc b) e = absurd (no e)
eqℤ-true (negsuc a) (pos b) e = absurd (no e)
eqℤ-true (negsuc a) (negsuc b) e = ap negsuc (eqb-true a b e)

pub eqℤ-refl : (x : ℤ) → eqℤ x x ≡ true
eqℤ-refl (pos a) = eq-eqb a a refl
eqℤ-refl (negsuc a) = eq-eqb a a refl

-- two numbers with the same bits are the same
pub word_inj : (x y : ℤ) → SFits w64 x → SFits w64 y → of_z w64 x ≡ of_z w64 y → x ≡ y
word_inj x y f g e = sym (to_z-of_z f) ∙ ap (to_z w64) e ∙ to_z-of_z g

-- `x == y`
pub eq_words : (x y : ℤ) → SFits w64 x → SFits w64 y → eqb (of_z w64 x) (of_z w64 y) ≡ eqℤ x y
eq_words (pos a) (pos b) f g = refl
eq_words (pos a) (negsuc b) f g = ne_eqb _ _ (apart f.sfits g.sfits)
  where
    apart : a < 2 ^ 63 → b < 2 ^ 63 → a ≡ 2 ^ 64 - suc b → ⊥
    apart h k e = omega arith
eq_words (negsuc a) (pos b) f g = ne_eqb _ _ (apart f.sfits g.sfits)
  where
    apart : a < 2 ^ 63 → b < 2 ^ 63 → 2 ^ 64 - suc a ≡ b → ⊥
    apart h k e = omega arith
eq_words (negsuc a) (negsuc b) f g = eqb_same _ _ _ _ (to f.sfits g.sfits) from
  where
    to : a < 2 ^ 63 → b < 2 ^ 63 → 2 ^ 64 - suc a ≡ 2 ^ 64 - suc b → a ≡ b
    to h k e = omega arith

    from : a ≡ b → 2 ^ 64 - suc a ≡ 2 ^ 64 - suc b
    from e = omega arith

-- ---- a word from 0 to n, as code tests it: x < 0, n < x
pub below_zero : (n : ℕ) (z : ℤ) → lt_z z (pos 0) ≡ true → up_to n z ≡ false
below_zero n (pos a) e = absurd (omega (arith, ltb-true a 0 e))
below_zero n (negsuc a) e = refl

pub word_is : (n : ℕ) (z : ℤ) → up_to n z ≡ true → (z ≡ pos (nat_abs z)) × (nat_abs z ≤ n)
word_is n (pos m) e = (refl, leb-true m n e)
word_is n (negsuc m) e = absurd (no e)

-- ---- casts: a word from 0 to n, read as an unsigned number
pub cast_ok : {w : Width} (n : ℕ) (z : ℤ) → up_to n z ≡ true → Fits w n → T (non_neg z) × Fits w (nat_abs z)
cast_ok n (pos m) e f = (tt, record { fits = lt_of_le_of_lt (leb-true m n e) f.fits })
cast_ok n (negsuc m) e f = absurd (no e)
