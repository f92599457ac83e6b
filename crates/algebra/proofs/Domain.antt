-- Rings with no zero divisors, and what cancels in their fractions: ℤ, and R[√d] where √d is no fraction of R; so ℤ[√2] and ℤ[√2, i].
use mathlib.Core.Path.{◌≡◌, refl, sym, ap, ap₂, ◌∙◌}
use mathlib.Core.Logic.{◌≢◌, ◌⊎◌, inl, inr, ⊎_elim}
use mathlib.Core.List.{[], ◌∷◌}
use Prim.Native.Nat.{ℕ, zero, suc, ◌+◌, ◌*◌, ◌/◌, ◌%◌, ◌<◌}
use native.Mathlib.Nat.{eq-zero-or-pos, mul-pos, add-zero as add-zeroₙ}
use native.Mathlib.Omega.{arith}
use lib.Arith.{bin_ind}
use lib.IntN.{ℤ, pos, negsuc, nat_abs, ◌+ℤ◌, ◌*ℤ◌}
use Rattle.algebra.specs.Quadratic.{Pair, pair, quadratic}
use Rattle.algebra.specs.Dyadic.{Frac, frac, lowest as lowestOf, power as power_of, by, dyadic}
use Rattle.algebra.proofs.Semi.{zero-mul, add-mul, mul-four}
use Rattle.algebra.proofs.Ring.{CommRing, ℤR, semi, mul_zero, mul-one, sub-zero, add-zero, neg_zero, neg_mul}
use Rattle.algebra.proofs.Solver.{Expr, con, var, ◌⊞◌, ◌⊠◌, ⊟, expr_ops, eqn}
use Rattle.algebra.proofs.Quadratic.{quad, ℤ√2, ℤ√2i}
use Rattle.algebra.proofs.Parts.{abs-mul, sq_is}
use Rattle.algebra.proofs.Dyadic.{Halving, power-add, cancel, lowest-equal, equal-lowest}

abbrev pub Domain : CommRing → Type 0
Domain 𝓚 = (a b : 𝓚.K) → 𝓚.ops.◌⊗◌ a b ≡ 𝓚.ops.𝟘 → (a ≡ 𝓚.ops.𝟘) ⊎ (b ≡ 𝓚.ops.𝟘)

-- what is not zero cancels
pub cancel_factor : (𝓚 : CommRing) → Domain 𝓚 → (a x y : 𝓚.K) → a ≢ 𝓚.ops.𝟘 → 𝓚.ops.◌⊗◌ x a ≡ 𝓚.ops.◌⊗◌ y a → x ≡ y
cancel_factor 𝓚 dom a x y h e =
    ⊎_elim (sub-zero 𝓚 x y) (λ z. absurd (h z))
    (dom (add x (neg y)) a (add-mul (semi 𝓚) x (neg y) a ∙ ap₂ add e (neg_mul 𝓚 y a) ∙ 𝓚.add_neg (mul y a)))
  where
    add : 𝓚.K → 𝓚.K → 𝓚.K
    add = 𝓚.ops.◌⊕◌

    mul : 𝓚.K → 𝓚.K → 𝓚.K
    mul = 𝓚.ops.◌⊗◌

    neg : 𝓚.K → 𝓚.K
    neg = 𝓚.ops.neg

-- ---- fractions over powers of two
module _ (𝓚 : CommRing) (𝓗 : Halving 𝓚) (dom : Domain 𝓚) where
  open 𝓚 use {K}
  open 𝓚.ops use {𝟘, ◌⊗◌ as mul}

  abbrev lowest : Frac K → Frac K
  lowest = lowestOf 𝓗.halves

  abbrev times : Frac K → Frac K → Frac K
  times = (dyadic 𝓚.ops 𝓗.halves).◌⊗◌

  abbrev power : ℕ → K
  power = power_of 𝓚.ops

  pub zero_fraction : (x y : Frac K) → times x y ≡ frac 𝟘 0 → (x.num ≡ 𝟘) ⊎ (y.num ≡ 𝟘)
  zero_fraction x y e =
      dom x.num y.num
      (sym (mul-one 𝓚 (mul x.num y.num)) ∙ equal-lowest 𝓚 𝓗 (by 𝓚.ops x y) (frac 𝟘 0) e ∙ zero-mul (semi 𝓚) (power (x.exp + y.exp)))

  pub cancel_fraction : (a x y : Frac K) → a.num ≢ 𝟘 → times x a ≡ times y a → lowest x ≡ lowest y
  cancel_fraction a x y h e =
      lowest-equal 𝓚 𝓗 x y
      (cancel_factor 𝓚 dom a.num (mul x.num (power y.exp)) (mul y.num (power x.exp)) h
      (cancel 𝓚 𝓗 a.exp (mul (mul x.num (power y.exp)) a.num) (mul (mul y.num (power x.exp)) a.num)
      (sym (spread x y) ∙ equal-lowest 𝓚 𝓗 (by 𝓚.ops x a) (by 𝓚.ops y a) e ∙ spread y x)))
    where
      spread : (x y : Frac K) → mul (mul x.num a.num) (power (y.exp + a.exp)) ≡ mul (mul (mul x.num (power y.exp)) a.num) (power a.exp)
      spread x y =
          ap (mul (mul x.num a.num)) (power-add 𝓚 𝓗 y.exp a.exp)
          ∙ mul-four (semi 𝓚) x.num a.num (power y.exp) (power a.exp)
          ∙ sym (𝓚.mul_assoc (mul x.num (power y.exp)) a.num (power a.exp))

-- ---- the integers
abs-none : (x : ℤ) → nat_abs x ≡ 0 → x ≡ pos 0
abs-none (pos n) h = ap pos h
abs-none (negsuc n) h = absurd (omega arith)

pub ℤ-domain : Domain ℤR
ℤ-domain a b e = go (eq-zero-or-pos (nat_abs a)) (eq-zero-or-pos (nat_abs b))
  where
    go : (nat_abs a ≡ 0) ⊎ (0 < nat_abs a) → (nat_abs b ≡ 0) ⊎ (0 < nat_abs b) → (a ≡ pos 0) ⊎ (b ≡ pos 0)
    go (inl p) q = inl (abs-none a p)
    go (inr p) (inl q) = inr (abs-none b q)
    go (inr p) (inr q) = absurd (omega (arith, mul-pos p q, abs-mul a b, ap nat_abs e))

-- ---- a root adjoined
module _ (𝓚 : CommRing) (d : 𝓚.K) (dom : Domain 𝓚) where
  open 𝓚 use {K}
  open 𝓚.ops use {𝟘, ◌⊕◌ as add, ◌⊗◌ as mul, neg}

  -- p² = d·q² in 0 alone
  abbrev pub NoRoot : Type 0
  NoRoot = (p q : K) → mul p p ≡ mul d (mul q q) → q ≡ 𝟘

  norm : Pair K → K
  norm x = add (mul x.re x.re) (neg (mul d (mul x.im x.im)))

  norm-mul : (x y : Pair K) → (quadratic 𝓚.ops d).◌⊗◌ x y ≡ pair 𝟘 𝟘 → mul (norm x) (norm y) ≡ 𝟘
  unfolding norm
  norm-mul x y e =
      eqn 𝓚 (x.re ∷ x.im ∷ y.re ∷ y.im ∷ d ∷ []) (N (var 0) (var 1) ⊠ N (var 2) (var 3)) (N R.re R.im) tt
      ∙ ap (λ (z : Pair K). add (mul z.re z.re) (neg (mul d (mul z.im z.im)))) e
      ∙ ap₂ add (mul_zero 𝓚 𝟘) (ap neg (ap (mul d) (mul_zero 𝓚 𝟘) ∙ mul_zero 𝓚 d) ∙ neg_zero 𝓚)
      ∙ add-zero 𝓚 𝟘
    where
      N : Expr → Expr → Expr
      N p q = p ⊠ p ⊞ ⊟ (var 4 ⊠ (q ⊠ q))

      R : Pair Expr
      R = (quadratic expr_ops (var 4)).◌⊗◌ (pair (var 0) (var 1)) (pair (var 2) (var 3))

  norm-none : NoRoot → (x : Pair K) → norm x ≡ 𝟘 → x ≡ pair 𝟘 𝟘
  unfolding norm
  norm-none free x e = ap₂ pair (⊎_elim (λ p. p) (λ p. p) (dom x.re x.re (square ∙ ap (mul d) (ap₂ mul none none ∙ mul_zero 𝓚 𝟘) ∙ mul_zero 𝓚 d))) none
    where
      square : mul x.re x.re ≡ mul d (mul x.im x.im)
      square = sub-zero 𝓚 (mul x.re x.re) (mul d (mul x.im x.im)) e

      none : x.im ≡ 𝟘
      none = free x.re x.im square

  pub quad_domain : NoRoot → Domain (quad 𝓚 d)
  quad_domain free x y e = ⊎_elim (λ p. inl (norm-none free x p)) (λ p. inr (norm-none free y p)) (dom (norm x) (norm y) (norm-mul x y e))

-- ---- √2 is irrational: n² = 2·m² makes n even, then m, and their halves obey the same equation
even_square : (n m : ℕ) → n * n ≡ 2 * m → (n ≡ 2 * (n / 2)) × (m ≡ 2 * (n / 2 * (n / 2)))
even_square n m e = go (n / 2) (n % 2) (omega arith) (omega arith)
  where
    go : (k s : ℕ) → n ≡ 2 * k + s → s < 2 → (n ≡ 2 * k) × (m ≡ 2 * (k * k))
    go k zero h l = (omega arith, double (h ∙ add-zeroₙ (2 * k)))
      where
        double : n ≡ 2 * k → m ≡ 2 * (k * k)
        double q = omega (arith, sym e ∙ ap₂ ◌*◌ q q)
    go k (suc zero) h l = absurd (omega (arith, sym e ∙ ap₂ ◌*◌ h h))
    go k (suc (suc s)) h l = absurd (omega arith)

irrational : (m n : ℕ) → n * n ≡ 2 * (m * m) → m ≡ 0
irrational = bin_ind (λ (m : ℕ). (n : ℕ) → n * n ≡ 2 * (m * m) → m ≡ 0) (λ n e. refl)
    (λ m ih n e.
    let p = even_square n (m * m) e in
    let q = even_square m (n / 2 * (n / 2)) p.1 in
    omega (arith, q.0, ih (n / 2) q.1))

root2 : NoRoot ℤR (pos 2) ℤ-domain
root2 p q e = abs-none q (irrational (nat_abs q) (nat_abs p) (sym (abs-mul p p) ∙ ap nat_abs e ∙ abs-mul (pos 2) (q *ℤ q) ∙ ap (λ (n : ℕ). 2 * n) (abs-mul q q)))

pub ℤ√2-domain : Domain ℤ√2
ℤ√2-domain = quad_domain ℤR (pos 2) ℤ-domain root2

-- ---- p² = −q² in ℤ[√2]: the rational parts are sums of squares
minus_one : NoRoot ℤ√2 (ℤ√2.ops.int (negsuc 0)) ℤ√2-domain
minus_one p q e = ap₂ pair (root q.re (omega (arith, whole))) (root q.im (omega (arith, whole)))
  where
    root : (x : ℤ) → nat_abs x * nat_abs x ≡ 0 → x ≡ pos 0
    root x h = ⊎_elim (λ z. z) (λ z. z) (ℤ-domain x x (sq_is x ∙ ap pos h))

    S : Expr → Expr → Expr
    S x y = x ⊠ x ⊞ con (pos 2) ⊠ (y ⊠ y)

    sum : (p.re *ℤ p.re +ℤ pos 2 *ℤ (p.im *ℤ p.im)) +ℤ (q.re *ℤ q.re +ℤ pos 2 *ℤ (q.im *ℤ q.im)) ≡ pos 0
    sum = ap (λ (z : Pair ℤ). z.re +ℤ (q.re *ℤ q.re +ℤ pos 2 *ℤ (q.im *ℤ q.im))) e
        ∙ eqn ℤR (q.re ∷ q.im ∷ []) ((con (negsuc 0) ⊠ S (var 0) (var 1) ⊞ con (pos 2) ⊠ (con (pos 0) ⊠ (var 0 ⊠ var 1 ⊞ var 1 ⊠ var 0))) ⊞ S (var 0) (var 1)) (con (pos 0)) tt

    whole : nat_abs p.re * nat_abs p.re + 2 * (nat_abs p.im * nat_abs p.im) + (nat_abs q.re * nat_abs q.re + 2 * (nat_abs q.im * nat_abs q.im)) ≡ 0
    whole = ap nat_abs (simp sq_is at sum)

pub ℤ√2i-domain : Domain ℤ√2i
ℤ√2i-domain = quad_domain ℤ√2 (ℤ√2.ops.int (negsuc 0)) ℤ√2-domain minus_one
