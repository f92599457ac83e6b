-- Stores: their order by the lowest bit that differs, as a strict total order.
use mathlib.Core.Path.{◌≡◌, refl, sym, ap, ◌∙◌}
use mathlib.Core.Bool.{Bool, true, false, not, cond, ◌&&◌, true≢false}
use mathlib.Core.List.{List, [], ◌∷◌}
use Prim.Native.Nat.{ℕ, zero, suc, ◌/◌, ◌%◌, ◌^◌, ◌<◌, ◌≤◌}
use native.Mathlib.Nat.{mod-lt, div-one, pow-suc}
use native.Mathlib.Omega.{arith}
use lib.Dec.{eqb, ltb, lit<, leb-suc-suc}
use lib.Bits.{bit_xor, bit_and, xor_mod, xor_shr}
use lib.Count.{count_trailing_zeros, under}
use borrow.Author.Tests.{lt-ltb, le-ltb, ltb-true, ltb-false, eq-eqb, ne_eqb, eqb-true, eqb-false}
use Rattle.algebra.proofs.Signed.{digit-suc, and_one}
use Rattle.store.specs.Store.{bits, precedes, before}

-- the lowest bit that differs decides
pub scan : (n x y : ℕ) → (ltb (count_trailing_zeros n (bit_xor x y)) n && eqb (y / 2 ^ count_trailing_zeros n (bit_xor x y) % 2) 1) ≡ precedes (bits n x) (bits n y)
unfolding count_trailing_zeros
scan zero x y = refl
scan (suc n) x y =
    (λ i. ltb (under (xor_mod x y 1 i) (count_trailing_zeros n (xor_shr x y 1 i))) (suc n) && eqb (y / 2 ^ under (xor_mod x y 1 i) (count_trailing_zeros n (xor_shr x y 1 i)) % 2) 1)
    ∙ go (x % 2) (y % 2) (mod-lt x (lit< tt)) (mod-lt y (lit< tt)) refl (scan n (x / 2) (y / 2))
  where
    t : ℕ
    t = count_trailing_zeros n (bit_xor (x / 2) (y / 2))

    later : eqb (y / 2 ^ suc t % 2) 1 ≡ eqb (y / 2 / 2 ^ t % 2) 1
    later = ap (λ (k : ℕ). eqb (k % 2) 1) (digit-suc y t)

    here : (q : ℕ) → y % 2 ≡ q → eqb (y / 2 ^ 0 % 2) 1 ≡ eqb q 1
    here q e = ap (λ (k : ℕ). eqb (k % 2) 1) (div-one y) ∙ ap (λ (k : ℕ). eqb k 1) e

    go : (p q : ℕ) → p < 2 → q < 2 → y % 2 ≡ q → (ltb t n && eqb (y / 2 / 2 ^ t % 2) 1) ≡ precedes (bits n (x / 2)) (bits n (y / 2))
        → (ltb (under (bit_xor p q) t) (suc n) && eqb (y / 2 ^ under (bit_xor p q) t % 2) 1) ≡ cond (eqb p q) (precedes (bits n (x / 2)) (bits n (y / 2))) (ltb p q)
    go zero zero h k e ih = (λ i. leb-suc-suc (suc t) n i && later i) ∙ ih
    go zero (suc zero) h k e ih = λ i. lt-ltb 0 (suc n) (omega arith) i && here 1 e i
    go (suc zero) zero h k e ih = λ i. lt-ltb 0 (suc n) (omega arith) i && here 0 e i
    go (suc zero) (suc zero) h k e ih = (λ i. leb-suc-suc (suc t) n i && later i) ∙ ih
    go (suc (suc p)) q h k e ih = absurd (omega arith)
    go zero (suc (suc q)) h k e ih = absurd (omega arith)
    go (suc zero) (suc (suc q)) h k e ih = absurd (omega arith)

-- by the code: t is the lowest bit that differs, or 64
pub later-bit : (x y : ℕ) → count_trailing_zeros 64 (bit_xor x y) < 64 → eqb (bit_and (y / 2 ^ count_trailing_zeros 64 (bit_xor x y)) 1) 1 ≡ before x y
unfolding before
later-bit x y h =
    ap (λ (k : ℕ). eqb k 1) (and_one (y / 2 ^ count_trailing_zeros 64 (bit_xor x y)))
    ∙ ap (λ (b : Bool). b && eqb (y / 2 ^ count_trailing_zeros 64 (bit_xor x y) % 2) 1) (sym (lt-ltb _ 64 h))
    ∙ scan 64 x y

pub no_bit : (x y : ℕ) → 64 ≤ count_trailing_zeros 64 (bit_xor x y) → false ≡ before x y
unfolding before
no_bit x y h = ap (λ (b : Bool). b && eqb (y / 2 ^ count_trailing_zeros 64 (bit_xor x y) % 2) 1) (sym (le-ltb _ 64 h)) ∙ scan 64 x y

-- ---- a strict total order
pub precedes_irrefl : (xs : List ℕ) → precedes xs xs ≡ false
precedes_irrefl [] = refl
precedes_irrefl (x ∷ xs) = ap (λ (b : Bool). cond b (precedes xs xs) (ltb x x)) (eq-eqb x x refl) ∙ precedes_irrefl xs

pub precedes_trans : (xs ys zs : List ℕ) → precedes xs ys ≡ true → precedes ys zs ≡ true → precedes xs zs ≡ true
precedes_trans [] ys zs e f = absurd (true≢false (sym e))
precedes_trans (x ∷ xs) [] zs e f = absurd (true≢false (sym e))
precedes_trans (x ∷ xs) (y ∷ ys) [] e f = absurd (true≢false (sym f))
precedes_trans (x ∷ xs) (y ∷ ys) (z ∷ zs) e f = go (eqb x y) refl (eqb y z) refl e f (precedes_trans xs ys zs)
  where
    smaller : x < z → cond (eqb x z) (precedes xs zs) (ltb x z) ≡ true
    smaller h = (λ i. cond (ne_eqb x z (λ q. omega arith) i) (precedes xs zs) (lt-ltb x z h i))

    go : (p : Bool) → eqb x y ≡ p → (q : Bool) → eqb y z ≡ q → cond p (precedes xs ys) (ltb x y) ≡ true → cond q (precedes ys zs) (ltb y z) ≡ true
        → (precedes xs ys ≡ true → precedes ys zs ≡ true → precedes xs zs ≡ true) → cond (eqb x z) (precedes xs zs) (ltb x z) ≡ true
    go true p true q e f ih = ap (λ (b : Bool). cond b (precedes xs zs) (ltb x z)) (eq-eqb x z (eqb-true x y p ∙ eqb-true y z q)) ∙ ih e f
    go true p false q e f ih = let a = eqb-true x y p in let b = ltb-true y z f in smaller (omega arith)
    go false p true q e f ih = let a = ltb-true x y e in let b = eqb-true y z q in smaller (omega arith)
    go false p false q e f ih = let a = ltb-true x y e in let b = ltb-true y z f in smaller (omega arith)

precedes-total : (n x y : ℕ) → x < 2 ^ n → y < 2 ^ n → eqb x y ≡ false → precedes (bits n x) (bits n y) ≡ not (precedes (bits n y) (bits n x))
precedes-total zero x y h k e = absurd (eqb-false x y e (omega arith))
precedes-total (suc n) x y h k e =
    go (eqb (x % 2) (y % 2)) refl (precedes-total n (x / 2) (y / 2) (half x h) (half y k))
  where
    half : (z : ℕ) → z < 2 ^ suc n → z / 2 < 2 ^ n
    half z q = let p = pow-suc 2 n in omega arith

    go : (b : Bool) → eqb (x % 2) (y % 2) ≡ b → (eqb (x / 2) (y / 2) ≡ false → precedes (bits n (x / 2)) (bits n (y / 2)) ≡ not (precedes (bits n (y / 2)) (bits n (x / 2))))
        → cond (eqb (x % 2) (y % 2)) (precedes (bits n (x / 2)) (bits n (y / 2))) (ltb (x % 2) (y % 2)) ≡ not (cond (eqb (y % 2) (x % 2)) (precedes (bits n (y / 2)) (bits n (x / 2))) (ltb (y % 2) (x % 2)))
    go true t ih =
        (λ i. cond (t i) (precedes (bits n (x / 2)) (bits n (y / 2))) (ltb (x % 2) (y % 2)))
        ∙ ih (ne_eqb (x / 2) (y / 2) (λ q. apart (eqb-true (x % 2) (y % 2) t) q))
        ∙ sym (λ i. not (cond (eq-eqb (y % 2) (x % 2) (sym (eqb-true (x % 2) (y % 2) t)) i) (precedes (bits n (y / 2)) (bits n (x / 2))) (ltb (y % 2) (x % 2))))
      where
        apart : x % 2 ≡ y % 2 → x / 2 ≡ y / 2 → ⊥
        apart p q = eqb-false x y e (omega arith)
    go false t ih =
        (λ i. cond (t i) (precedes (bits n (x / 2)) (bits n (y / 2))) (ltb (x % 2) (y % 2)))
        ∙ ltb_total (x % 2) (y % 2) (eqb-false (x % 2) (y % 2) t)
        ∙ sym (λ i. not (cond (ne_eqb (y % 2) (x % 2) (λ q. eqb-false (x % 2) (y % 2) t (sym q)) i) (precedes (bits n (y / 2)) (bits n (x / 2))) (ltb (y % 2) (x % 2))))
      where
        ltb_total : (a b : ℕ) → (a ≡ b → ⊥) → ltb a b ≡ not (ltb b a)
        ltb_total a b ne = by (ltb b a) refl
          where
            by : (c : Bool) → ltb b a ≡ c → ltb a b ≡ not (ltb b a)
            by true c = le-ltb a b (let q = ltb-true b a c in omega arith) ∙ sym (ap not c)
            by false c = lt-ltb a b (let q = ltb-false b a c in omega arith) ∙ sym (ap not c)

pub before_irrefl : (x : ℕ) → before x x ≡ false
unfolding before
before_irrefl x = precedes_irrefl (bits 64 x)

pub before_trans : (x y z : ℕ) → before x y ≡ true → before y z ≡ true → before x z ≡ true
unfolding before
before_trans x y z = precedes_trans (bits 64 x) (bits 64 y) (bits 64 z)

pub before-total : (x y : ℕ) → x < 2 ^ 64 → y < 2 ^ 64 → eqb x y ≡ false → before x y ≡ not (before y x)
unfolding before
before-total = precedes-total 64

-- a store is not the one that it comes before
pub before_apart : (x y : ℕ) → before x y ≡ true → eqb x y ≡ false
before_apart x y e = ne_eqb x y (λ q. true≢false (sym e ∙ ap (before x) (sym q) ∙ before_irrefl x))
