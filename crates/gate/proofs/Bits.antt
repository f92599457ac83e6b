-- Qubit q of n is the bit of weight 2^(n − 1 − q) of a row or column number below 2^n: its bits tell a number, and can be chosen freely;
-- a bit cleared; lists of bits, and when two are the same.
use mathlib.Core.Path.{◌≡◌, refl, sym, ap, ap₂, ◌∙◌}
use mathlib.Core.Logic.{◌≢◌}
use mathlib.Core.Bool.{Bool, true, false, cond, ◌&&◌, true≢false}
use mathlib.Core.List.{List, [], ◌∷◌}
use Prim.Native.Nat.{ℕ, zero, suc, ◌+◌, ◌-◌, ◌*◌, ◌/◌, ◌%◌, ◌^◌, ◌≤◌, ◌<◌}
use native.Mathlib.Nat.{pow-succ', div-one, div-div-eq-div-mul, mod-le, div-mul-le_self, mul-le-mul_right, le_trans}
use native.Mathlib.Omega.{arith}
use lib.Dec.{eqb}
use lib.ListN.{length}
use borrow.Author.Tests.{eqb-true, eq-eqb}
use Rattle.algebra.specs.Lists.{All}
use Rattle.algebra.proofs.Tests.{and_split}
use Rattle.gate.specs.Operators.{same_bits}
use Rattle.gate.specs.Embed.{bit}

-- bits of the numbers below d: n of them tell a number, and any choice of bits of two numbers is a number's
pub record Bits (n d : ℕ) (bit : ℕ → ℕ → ℕ) : Type 0 where
  pub tells : (r c : ℕ) → r < d → c < d → ((q : ℕ) → q < n → bit q r ≡ bit q c) → r ≡ c
  pub mix : (ℕ → Bool) → ℕ → ℕ → ℕ
  pub mix_below : (s : ℕ → Bool) (c r : ℕ) → mix s c r < d
  pub mix_on : (s : ℕ → Bool) (c r q : ℕ) → q < n → s q ≡ true → bit q (mix s c r) ≡ bit q c
  pub mix_off : (s : ℕ → Bool) (c r q : ℕ) → q < n → s q ≡ false → bit q (mix s c r) ≡ bit q r

-- the bit of weight 2^w
unfoldable pub low : ℕ → ℕ → ℕ
low w r = r / 2 ^ w % 2

pub low-zero : (r : ℕ) → low 0 r ≡ r % 2
unfolding low
low-zero r = ap (λ (x : ℕ). x % 2) (div-one r)

pub low-suc : (w r : ℕ) → low (suc w) r ≡ low w (r / 2)
unfolding low
low-suc w r = ap (λ (x : ℕ). x % 2) (ap (λ (y : ℕ). r / y) (pow-succ' 2 w) ∙ sym (div-div-eq-div-mul r 2 (2 ^ w)))

low_tells : (n r c : ℕ) → r < 2 ^ n → c < 2 ^ n → ((w : ℕ) → w < n → low w r ≡ low w c) → r ≡ c
low_tells zero r c l m h = omega arith
low_tells (suc n) r c l m h =
    let e : r / 2 ≡ c / 2 = low_tells n (r / 2) (c / 2) (omega arith) (omega arith) (λ w k. sym (low-suc w r) ∙ h (suc w) (omega arith) ∙ low-suc w c) in
    let f : r % 2 ≡ c % 2 = sym (low-zero r) ∙ h 0 (omega arith) ∙ low-zero c in
    omega arith

-- the number with bits f 0, f 1, .., the lowest first
pub make : ℕ → (ℕ → ℕ) → ℕ
make zero f = 0
make (suc n) f = 2 * make n (λ (w : ℕ). f (suc w)) + f 0

pub make_below : (n : ℕ) (f : ℕ → ℕ) → ((w : ℕ) → f w < 2) → make n f < 2 ^ n
unfolding make
make_below zero f h = omega arith
make_below (suc n) f h = omega (arith, make_below n (λ (w : ℕ). f (suc w)) (λ w. h (suc w)), h 0)

pub low_make : (n : ℕ) (f : ℕ → ℕ) → ((w : ℕ) → f w < 2) → (w : ℕ) → w < n → low w (make n f) ≡ f w
unfolding make
low_make zero f h w l = absurd (omega arith)
low_make (suc n) f h zero l = low-zero (2 * make n (λ (w : ℕ). f (suc w)) + f 0) ∙ omega (arith, h 0)
low_make (suc n) f h (suc w) l =
    low-suc w (2 * make n (λ (w : ℕ). f (suc w)) + f 0)
    ∙ ap (low w) (omega (arith, h 0)) ∙ low_make n (λ (w : ℕ). f (suc w)) (λ v. h (suc v)) w (omega arith)

module _ (n : ℕ) where
  pick : (ℕ → Bool) → ℕ → ℕ → ℕ → ℕ
  pick s c r q = cond (s q) (bit n q c) (bit n q r)

  pick_below : (s : ℕ → Bool) (c r q : ℕ) → pick s c r q < 2
  unfolding pick
  pick_below s c r q = go (s q)
    where
      go : (b : Bool) → cond b (bit n q c) (bit n q r) < 2
      go true = omega arith
      go false = omega arith

  mixed : (ℕ → Bool) → ℕ → ℕ → ℕ
  mixed s c r = make n (λ (w : ℕ). pick s c r (n - 1 - w))

  mixed-bit : (s : ℕ → Bool) (c r q : ℕ) → q < n → bit n q (mixed s c r) ≡ pick s c r q
  unfolding mixed low
  mixed-bit s c r q l =
      low_make n (λ (w : ℕ). pick s c r (n - 1 - w)) (λ w. pick_below s c r (n - 1 - w)) (n - 1 - q) (omega arith)
      ∙ ap (pick s c r) (omega arith)

  pub binary : Bits n (2 ^ n) (bit n)
  unfolding mixed low pick
  binary = record {
    tells = λ r c l m h. low_tells n r c l m (λ w k. ap (λ (v : ℕ). low v r) (omega arith) ∙ h (n - 1 - w) (omega arith) ∙ ap (λ (v : ℕ). low v c) (omega arith));
    mix = mixed;
    mix_below = λ s c r. make_below n (λ (w : ℕ). pick s c r (n - 1 - w)) (λ w. pick_below s c r (n - 1 - w));
    mix_on = λ s c r q l e. mixed-bit s c r q l ∙ ap (λ (b : Bool). cond b (bit n q c) (bit n q r)) e;
    mix_off = λ s c r q l e. mixed-bit s c r q l ∙ ap (λ (b : Bool). cond b (bit n q c) (bit n q r)) e;
  }

-- ---- a bit cleared
-- r with the bit of weight 2^w cleared
unfoldable pub cleared : ℕ → ℕ → ℕ
cleared w r = r - low w r * 2 ^ w

low_le : (w r : ℕ) → low w r * 2 ^ w ≤ r
unfolding low
low_le w r = le_trans (mul-le-mul_right (2 ^ w) (mod-le (r / 2 ^ w) 2)) (div-mul-le_self r (2 ^ w))

cleared-zero : (r : ℕ) → cleared 0 r ≡ r - r % 2
unfolding cleared
cleared-zero r = omega (arith, low-zero r)

cleared-suc : (w r : ℕ) → cleared (suc w) r ≡ 2 * cleared w (r / 2) + r % 2
unfolding cleared
cleared-suc w r = rw (low-suc w r, pow-succ' 2 w) (omega (arith, low_le w (r / 2)))

-- the lowest bit and the rest
low-zero-of : (y b : ℕ) → b < 2 → low 0 (2 * y + b) ≡ b
low-zero-of y b l = low-zero (2 * y + b) ∙ omega arith

low-suc-of : (v y b : ℕ) → b < 2 → low (suc v) (2 * y + b) ≡ low v y
low-suc-of v y b l = let e : (2 * y + b) / 2 ≡ y = omega arith in low-suc v (2 * y + b) ∙ ap (low v) e

pub low-cleared : (w r : ℕ) → low w (cleared w r) ≡ 0
low-cleared zero r = ap (low 0) (cleared-zero r) ∙ low-zero (r - r % 2) ∙ omega arith
low-cleared (suc w) r = ap (low (suc w)) (cleared-suc w r) ∙ low-suc-of w (cleared w (r / 2)) (r % 2) (omega arith) ∙ low-cleared w (r / 2)

pub low-other : (v w r : ℕ) → v ≢ w → low v (cleared w r) ≡ low v r
low-other zero zero r h = absurd (h refl)
low-other zero (suc w) r h = ap (low 0) (cleared-suc w r) ∙ low-zero-of (cleared w (r / 2)) (r % 2) (omega arith) ∙ sym (low-zero r)
low-other (suc v) zero r h =
    let e : (r - r % 2) / 2 ≡ r / 2 = omega arith in
    ap (low (suc v)) (cleared-zero r) ∙ low-suc v (r - r % 2) ∙ ap (low v) e ∙ sym (low-suc v r)
low-other (suc v) (suc w) r h =
    ap (low (suc v)) (cleared-suc w r) ∙ low-suc-of v (cleared w (r / 2)) (r % 2) (omega arith)
    ∙ low-other v w (r / 2) (λ e. h (ap suc e)) ∙ sym (low-suc v r)

-- ---- lists of bits
-- m bits
abbrev pub Word : ℕ → List ℕ → Type 0
Word m xs = (length xs ≡ m) × All (λ (x : ℕ). x < 2) xs

pub same_true : (xs ys : List ℕ) → same_bits xs ys ≡ true → xs ≡ ys
same_true [] [] e = refl
same_true [] (y ∷ ys) e = absurd (true≢false (sym e))
same_true (x ∷ xs) [] e = absurd (true≢false (sym e))
same_true (x ∷ xs) (y ∷ ys) e = let (h, k) = and_split (eqb x y) (same_bits xs ys) e in ap₂ ◌∷◌ (eqb-true x y h) (same_true xs ys k)

pub same_refl : (xs : List ℕ) → same_bits xs xs ≡ true
same_refl [] = refl
same_refl (x ∷ xs) = ap₂ ◌&&◌ (eq-eqb x x refl) (same_refl xs)

pub same_sym : (xs ys : List ℕ) → same_bits xs ys ≡ false → same_bits ys xs ≡ false
same_sym xs ys e = go (same_bits ys xs) refl
  where
    go : (b : Bool) → same_bits ys xs ≡ b → same_bits ys xs ≡ false
    go true f = absurd (true≢false (sym (ap (same_bits xs) (same_true ys xs f) ∙ same_refl xs) ∙ e))
    go false f = f
