-- x ^ (x << 1) of a word: its size, parity and zero say those of x.
use mathlib.Core.Path.{◌≡◌, sym, ap, ◌∙◌}
use mathlib.Core.Bool.{Bool, true, false}
use mathlib.Core.Logic.{◌⊎◌, inl, inr}
use Prim.Native.Nat.{ℕ, zero, suc, ◌+◌, ◌*◌, ◌-◌, ◌/◌, ◌%◌, ◌^◌, ◌<◌}
use native.Mathlib.Nat.{div-eq_of_lt, mod-lt, pow-succ'}
use native.Mathlib.Omega.{arith}
use lib.Dec.{eqb, ltb}
use lib.Pow.{pow_pos, pow-add, shr-shr, split}
use lib.Bits.{differ, bit_xor, and_le_l, and_le_r, xor_add_and, xor_self, xor_step, xor_shr, xor_mod, xor_lt, xor_zero_r}
use lib.IntN.{ℤ, pos, negsuc, nat_abs}
use lib.Signed.{mag, shr_z}
use mir.Syntax.{w64}
use mir.Val.{sel, to_z, of_z}
use borrow.Author.Tests.{ltb-true, lt-ltb, eqb-true, eq-eqb, ne_eqb}
use Rattle.algebra.specs.Words.{eqℤ}
use Rattle.algebra.proofs.Tests.{test_same}
use Rattle.algebra.proofs.Signed.{bit2}
use Rattle.gather.specs.Inner.Gathered.{edge}

pub xor_zero : (a b : ℕ) → eqb (bit_xor a b) 0 ≡ eqb a b
xor_zero a b =
    test_same _ _ (λ e. eq-eqb a b (omega (arith, eqb-true (bit_xor a b) 0 e, xor_add_and a b, and_le_l a b, and_le_r a b)))
    (λ e. eq-eqb _ _ (ap (λ (c : ℕ). bit_xor c b) (eqb-true a b e) ∙ xor_self b))

differ_flip : (a b : ℕ) → differ (suc a % 2) (suc b % 2) ≡ differ (a % 2) (b % 2)
differ_flip a b = go (bit2 a) (bit2 b)
  where
    up : (n : ℕ) → n % 2 ≡ 0 → suc n % 2 ≡ 1
    up n e = omega arith

    down : (n : ℕ) → n % 2 ≡ 1 → suc n % 2 ≡ 0
    down n e = omega arith

    go : (a % 2 ≡ 0) ⊎ (a % 2 ≡ 1) → (b % 2 ≡ 0) ⊎ (b % 2 ≡ 1) → differ (suc a % 2) (suc b % 2) ≡ differ (a % 2) (b % 2)
    go (inl p) (inl q) = rw (up a p, up b q, p, q)
    go (inl p) (inr q) = rw (up a p, down b q, p, q)
    go (inr p) (inl q) = rw (down a p, up b q, p, q)
    go (inr p) (inr q) = rw (down a p, down b q, p, q)

-- all bits flipped on both sides
xor_flip : (k a b : ℕ) → a < 2 ^ k → b < 2 ^ k → bit_xor (2 ^ k - suc a) (2 ^ k - suc b) ≡ bit_xor a b
xor_flip zero a b h g =
    let p : a ≡ 0 = omega arith in
    let q : b ≡ 0 = omega arith in
    rw (p, q)
xor_flip (suc k) a b h g =
    xor_step (2 ^ suc k - suc a) (2 ^ suc k - suc b)
    ∙ (λ i. bit_xor (half a h i) (half b g i) * 2 + differ (low a h i) (low b g i))
    ∙ (λ i. xor_flip k (a / 2) (b / 2) (less a h) (less b g) i * 2 + differ_flip a b i)
    ∙ sym (xor_step a b)
  where
    half : (a : ℕ) → a < 2 ^ suc k → (2 ^ suc k - suc a) / 2 ≡ 2 ^ k - suc (a / 2)
    half a h = omega (arith, pow-succ' 2 k)

    low : (a : ℕ) → a < 2 ^ suc k → (2 ^ suc k - suc a) % 2 ≡ suc a % 2
    low a h = omega (arith, pow-succ' 2 k)

    less : (a : ℕ) → a < 2 ^ suc k → a / 2 < 2 ^ k
    less a h = omega (arith, pow-succ' 2 k)

pub edge-word : (x : ℤ) → mag x < 2 ^ 63 → bit_xor (of_z w64 x) (of_z w64 x * 2 % 2 ^ 64) ≡ edge x
edge-word (pos n) h = let e : n * 2 % 2 ^ 64 ≡ n * 2 = omega arith in ap (bit_xor n) e
edge-word (negsuc n) h =
    let e : (2 ^ 64 - suc n) * 2 % 2 ^ 64 ≡ 2 ^ 64 - suc (n * 2 + 1) = omega arith in
    ap (bit_xor (2 ^ 64 - suc n)) e ∙ xor_flip 64 n (n * 2 + 1) (omega arith) (omega arith)

-- ---- n ^ m, where m is 2n or 2n + 1
module _ (k n m : ℕ) (h : m / 2 ≡ n) where
  -- what is left of both from bit k + 1 up is the same, so it is 0
  long : bit_xor n m < 2 ^ (k + 1) → n < 2 ^ k
  long b =
      let e : n / 2 ^ k / 2 ≡ n / 2 ^ k = shr-shr n k 1 ∙ eqb-true (n / 2 ^ (k + 1)) (m / 2 ^ (k + 1)) same ∙ half in
      let z : n / 2 ^ k ≡ 0 = omega arith in
      omega (arith, mod-lt n (pow_pos k), ap (λ (q : ℕ). q * 2 ^ k + n % 2 ^ k) z, split n k)
    where
      half : m / 2 ^ (k + 1) ≡ n / 2 ^ k
      half = let s : k + 1 ≡ 1 + k = omega arith in ap (λ (j : ℕ). m / 2 ^ j) s ∙ sym (shr-shr m 1 k) ∙ ap (λ (q : ℕ). q / 2 ^ k) h

      same : eqb (n / 2 ^ (k + 1)) (m / 2 ^ (k + 1)) ≡ true
      same = sym (xor_zero (n / 2 ^ (k + 1)) (m / 2 ^ (k + 1))) ∙ eq-eqb _ _ (sym (xor_shr n m (k + 1)) ∙ div-eq_of_lt b)

  short : n < 2 ^ k → bit_xor n m < 2 ^ (k + 1)
  short b = xor_lt (k + 1) n m (omega (arith, pow-add 2 k 1)) (omega (arith, pow-add 2 k 1))

  below : ltb (bit_xor n m) (2 ^ (k + 1)) ≡ ltb n (2 ^ k)
  below = test_same _ _ (λ e. lt-ltb n (2 ^ k) (long (ltb-true (bit_xor n m) (2 ^ (k + 1)) e))) (λ e. lt-ltb (bit_xor n m) (2 ^ (k + 1)) (short (ltb-true n (2 ^ k) e)))

pub edge_below : (k : ℕ) (x : ℤ) → ltb (edge x) (2 ^ (k + 1)) ≡ ltb (mag x) (2 ^ k)
edge_below k (pos n) = below k n (n * 2) (omega arith)
edge_below k (negsuc n) = below k n (n * 2 + 1) (omega arith)

pub edge-fits : (x : ℤ) → mag x < 2 ^ 63 → edge x < 2 ^ 64
edge-fits x h = ltb-true (edge x) (2 ^ 64) (edge_below 63 x ∙ lt-ltb (mag x) (2 ^ 63) h)

pub edge-parity : (x : ℤ) → edge x % 2 ≡ nat_abs x % 2
edge-parity (pos n) = let e : n * 2 % 2 ≡ 0 = omega arith in xor_mod n (n * 2) 1 ∙ ap (bit_xor (n % 2)) e ∙ xor_zero_r (n % 2)
edge-parity (negsuc n) = let e : (n * 2 + 1) % 2 ≡ 1 = omega arith in xor_mod n (n * 2 + 1) 1 ∙ ap (bit_xor (n % 2)) e ∙ go (bit2 n)
  where
    go : (n % 2 ≡ 0) ⊎ (n % 2 ≡ 1) → bit_xor (n % 2) 1 ≡ suc n % 2
    go (inl p) = let q : suc n % 2 ≡ 1 = omega arith in rw (p, q)
    go (inr p) = let q : suc n % 2 ≡ 0 = omega arith in rw (p, q)

pub edge-zero : (x : ℤ) → eqb (edge x) 0 ≡ eqℤ x (pos 0)
edge-zero (pos n) = xor_zero n (n * 2) ∙ test_same (eqb n (n * 2)) (eqb n 0) (λ e. eq-eqb n 0 (omega (arith, eqb-true n (n * 2) e))) (λ e. eq-eqb n (n * 2) (omega (arith, eqb-true n 0 e)))
edge-zero (negsuc n) = xor_zero n (n * 2 + 1) ∙ ne_eqb n (n * 2 + 1) (λ e. omega arith)

-- `g >> 62 == 0`
pub top-clear : (m : ℕ) → of_z w64 (shr_z (to_z w64 m) (2 ^ 62)) ≡ 0 → m < 2 ^ 62
top-clear m e = go (ltb m (2 ^ 63)) e
  where
    go : (t : Bool) → of_z w64 (shr_z (sel t (pos m) (negsuc (2 ^ 64 - suc m))) (2 ^ 62)) ≡ 0 → m < 2 ^ 62
    go true e = low e
      where
        low : m / 2 ^ 62 ≡ 0 → m < 2 ^ 62
        low e = omega arith
    go false e = absurd (omega (arith, e))
