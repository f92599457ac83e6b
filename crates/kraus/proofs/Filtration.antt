-- Which fractions are z / √2^w with z in ℤ[ω]: their sums, products and exponents.
-- 𝓖 is ℤ[i], with j = i; ℤ[ω] is 𝓖 with a root of j; in 𝓚, s is √2 and β is 1 + i = √2·ω.
use mathlib.Core.Path.{◌≡◌, refl, sym, ap, ap₂, ◌∙◌}
use mathlib.Core.Logic.{◌⊎◌, inl, inr}
use mathlib.Core.List.{[], ◌∷◌}
use Prim.Native.Nat.{ℕ, zero, suc, ◌+◌, ◌/◌}
use native.Mathlib.Omega.{arith}
use Rattle.algebra.specs.Quadratic.{Pair}
use Rattle.algebra.specs.Dyadic.{Frac, frac, low, dyadic}
use Rattle.algebra.proofs.Semi.{add_left, mul_left, add-mul}
use Rattle.algebra.proofs.Ring.{CommRing, semi, mul_zero}
use Rattle.algebra.proofs.Solver.{Expr, var, ◌⊞◌, ◌⊠◌, eqn}
use Rattle.algebra.proofs.Quadratic.{quad}
use Rattle.algebra.proofs.Dyadic.{Halving, low_double, low-zero, value-add, value-mul}

-- half of w, and one
abbrev pub Exp : ℕ → ℕ
Exp zero = 1
Exp (suc zero) = 1
Exp (suc (suc w)) = suc (Exp w)

pub exp_is : (w : ℕ) → Exp w ≡ w / 2 + 1
exp_is zero = refl
exp_is (suc zero) = refl
exp_is (suc (suc w)) = ap suc (exp_is w) ∙ omega arith

pub record Inside (𝓖 𝓚 : CommRing) : Type 0 where
  pub ι : 𝓖.K → 𝓚.K
  pub ι-add : (a b : 𝓖.K) → ι (𝓖.ops.◌⊕◌ a b) ≡ 𝓚.ops.◌⊕◌ (ι a) (ι b)
  pub ι-mul : (a b : 𝓖.K) → ι (𝓖.ops.◌⊗◌ a b) ≡ 𝓚.ops.◌⊗◌ (ι a) (ι b)
  pub ι-zero : ι 𝓖.ops.𝟘 ≡ 𝓚.ops.𝟘
  pub j : 𝓖.K
  pub s : 𝓚.K
  pub β : 𝓚.K
  pub s_s : 𝓚.ops.◌⊗◌ s s ≡ 𝓚.ops.◌⊕◌ 𝓚.ops.𝟙 𝓚.ops.𝟙
  pub β-β : 𝓚.ops.◌⊗◌ β β ≡ 𝓚.ops.◌⊗◌ (ι j) (𝓚.ops.◌⊗◌ s s)

abbrev v0 : Expr
v0 = var 0

abbrev v1 : Expr
v1 = var 1

abbrev v2 : Expr
v2 = var 2

abbrev v3 : Expr
v3 = var 3

abbrev v4 : Expr
v4 = var 4

abbrev v5 : Expr
v5 = var 5

module _ (𝓖 𝓚 : CommRing) (𝓘 : Inside 𝓖 𝓚) where
  infixl 60 ◌⊕◌
  infixl 70 ◌⊗◌
  open 𝓚 use {K, ops, add_assoc, add_comm, zero-add, mul_assoc, mul_comm, mul-add, one-mul}
  open 𝓚.ops use {𝟘, 𝟙, ◌⊕◌, ◌⊗◌}
  open 𝓘 use {ι, ι-add, ι-mul, ι-zero, j, s, β, s_s, β-β}

  abbrev pub 𝓩 : CommRing
  𝓩 = quad 𝓖 j

  abbrev Z : Type 0
  Z = Pair 𝓖.K

  -- √2 z and 2 z
  abbrev pub odd : Z → K
  odd z = s ⊗ ι z.re ⊕ β ⊗ ι z.im

  abbrev pub evn : Z → K
  evn z = s ⊗ odd z

  expand : (s b p q t u : K) → (s ⊗ p ⊕ b ⊗ q) ⊗ (s ⊗ t ⊕ b ⊗ u) ≡ s ⊗ s ⊗ (p ⊗ t) ⊕ b ⊗ b ⊗ (q ⊗ u) ⊕ s ⊗ b ⊗ (p ⊗ u ⊕ q ⊗ t)
  expand s b p q t u = eqn 𝓚 (s ∷ b ∷ p ∷ q ∷ t ∷ u ∷ []) ((v0 ⊠ v2 ⊞ v1 ⊠ v3) ⊠ (v0 ⊠ v4 ⊞ v1 ⊠ v5))
      (v0 ⊠ v0 ⊠ (v2 ⊠ v4) ⊞ v1 ⊠ v1 ⊠ (v3 ⊠ v5) ⊞ v0 ⊠ v1 ⊠ (v2 ⊠ v5 ⊞ v3 ⊠ v4)) tt

  fold : (s b i x y v : K) → s ⊗ s ⊗ x ⊕ i ⊗ (s ⊗ s) ⊗ y ⊕ s ⊗ b ⊗ v ≡ s ⊗ (s ⊗ (x ⊕ i ⊗ y) ⊕ b ⊗ v)
  fold s b i x y v = eqn 𝓚 (s ∷ b ∷ i ∷ x ∷ y ∷ v ∷ []) (v0 ⊠ v0 ⊠ v3 ⊞ v2 ⊠ (v0 ⊠ v0) ⊠ v4 ⊞ v0 ⊠ v1 ⊠ v5) (v0 ⊠ (v0 ⊠ (v3 ⊞ v2 ⊠ v4) ⊞ v1 ⊠ v5)) tt

  odd-odd : (x y : Z) → odd x ⊗ odd y ≡ evn (𝓩.ops.◌⊗◌ x y)
  odd-odd x y =
      expand s β (ι x.re) (ι x.im) (ι y.re) (ι y.im)
      ∙ ap (λ (b : K). s ⊗ s ⊗ (ι x.re ⊗ ι y.re) ⊕ b ⊗ (ι x.im ⊗ ι y.im) ⊕ s ⊗ β ⊗ (ι x.re ⊗ ι y.im ⊕ ι x.im ⊗ ι y.re)) β-β
      ∙ fold s β (ι j) (ι x.re ⊗ ι y.re) (ι x.im ⊗ ι y.im) (ι x.re ⊗ ι y.im ⊕ ι x.im ⊗ ι y.re)
      ∙ sym (ap₂ (λ (a b : K). s ⊗ (s ⊗ a ⊕ β ⊗ b))
      (ι-add _ _ ∙ ap₂ ◌⊕◌ (ι-mul x.re y.re) (ι-mul j _ ∙ ap (λ (c : K). ι j ⊗ c) (ι-mul x.im y.im)))
      (ι-add _ _ ∙ ap₂ ◌⊕◌ (ι-mul x.re y.im) (ι-mul x.im y.re)))

  twice : (x : K) → s ⊗ (s ⊗ x) ≡ x ⊕ x
  twice x = sym (mul_assoc s s x) ∙ ap (λ (y : K). y ⊗ x) s_s ∙ add-mul (semi 𝓚) 𝟙 𝟙 x ∙ ap₂ ◌⊕◌ (one-mul x) (one-mul x)

  odd-evn : (x y : Z) → odd x ⊗ evn y ≡ odd (𝓩.ops.◌⊗◌ x y) ⊕ odd (𝓩.ops.◌⊗◌ x y)
  odd-evn x y = mul_left (semi 𝓚) (odd x) s (odd y) ∙ ap (λ (z : K). s ⊗ z) (odd-odd x y) ∙ twice (odd (𝓩.ops.◌⊗◌ x y))

  evn-odd : (x y : Z) → evn x ⊗ odd y ≡ odd (𝓩.ops.◌⊗◌ x y) ⊕ odd (𝓩.ops.◌⊗◌ x y)
  evn-odd x y = mul_assoc s (odd x) (odd y) ∙ ap (λ (z : K). s ⊗ z) (odd-odd x y) ∙ twice (odd (𝓩.ops.◌⊗◌ x y))

  evn-evn : (x y : Z) → evn x ⊗ evn y ≡ evn (𝓩.ops.◌⊗◌ x y) ⊕ evn (𝓩.ops.◌⊗◌ x y)
  evn-evn x y = mul_left (semi 𝓚) (evn x) s (odd y) ∙ ap (λ (z : K). s ⊗ z) (evn-odd x y) ∙ mul-add s (odd (𝓩.ops.◌⊗◌ x y)) (odd (𝓩.ops.◌⊗◌ x y))

  -- z / √2^w is top w z / 2^(Exp w)
  abbrev pub top : ℕ → Z → K
  top zero z = evn z
  top (suc zero) z = odd z
  top (suc (suc w)) z = top w z

  odd-add : (x y : Z) → odd (𝓩.ops.◌⊕◌ x y) ≡ odd x ⊕ odd y
  odd-add x y =
      ap₂ (λ (a b : K). s ⊗ a ⊕ β ⊗ b) (ι-add x.re y.re) (ι-add x.im y.im)
      ∙ split s β (ι x.re) (ι x.im) (ι y.re) (ι y.im)
    where
      split : (s b p q t u : K) → s ⊗ (p ⊕ t) ⊕ b ⊗ (q ⊕ u) ≡ s ⊗ p ⊕ b ⊗ q ⊕ (s ⊗ t ⊕ b ⊗ u)
      split s b p q t u = simp (mul-add, add_assoc, add_left (semi 𝓚))

  top-add : (w : ℕ) (x y : Z) → top w (𝓩.ops.◌⊕◌ x y) ≡ top w x ⊕ top w y
  top-add zero x y = ap (λ (z : K). s ⊗ z) (odd-add x y) ∙ mul-add s (odd x) (odd y)
  top-add (suc zero) x y = odd-add x y
  top-add (suc (suc w)) x y = top-add w x y

  odd-zero : odd 𝓩.ops.𝟘 ≡ 𝟘
  odd-zero = ap₂ (λ (a b : K). s ⊗ a ⊕ β ⊗ b) ι-zero ι-zero ∙ ap₂ ◌⊕◌ (mul_zero 𝓚 s) (mul_zero 𝓚 β) ∙ zero-add 𝟘

  top-zero : (w : ℕ) → top w 𝓩.ops.𝟘 ≡ 𝟘
  top-zero zero = ap (λ (z : K). s ⊗ z) odd-zero ∙ mul_zero 𝓚 s
  top-zero (suc zero) = odd-zero
  top-zero (suc (suc w)) = top-zero w

  by-even : (w : ℕ) (x y : Z) → evn x ⊗ top w y ≡ top w (𝓩.ops.◌⊗◌ x y) ⊕ top w (𝓩.ops.◌⊗◌ x y)
  by-even zero x y = evn-evn x y
  by-even (suc zero) x y = evn-odd x y
  by-even (suc (suc w)) x y = by-even w x y

  by-odd : (w : ℕ) (x y : Z) → ((Exp (suc w) ≡ Exp w) × (odd x ⊗ top w y ≡ top (suc w) (𝓩.ops.◌⊗◌ x y) ⊕ top (suc w) (𝓩.ops.◌⊗◌ x y)))
      ⊎ ((Exp (suc w) ≡ suc (Exp w)) × (odd x ⊗ top w y ≡ top (suc w) (𝓩.ops.◌⊗◌ x y)))
  by-odd zero x y = inl (refl, odd-evn x y)
  by-odd (suc zero) x y = inr (refl, odd-odd x y)
  by-odd (suc (suc w)) x y = go (by-odd w x y)
    where
      go : ((Exp (suc w) ≡ Exp w) × (odd x ⊗ top w y ≡ top (suc w) (𝓩.ops.◌⊗◌ x y) ⊕ top (suc w) (𝓩.ops.◌⊗◌ x y)))
          ⊎ ((Exp (suc w) ≡ suc (Exp w)) × (odd x ⊗ top w y ≡ top (suc w) (𝓩.ops.◌⊗◌ x y)))
          → ((suc (Exp (suc w)) ≡ suc (Exp w)) × (odd x ⊗ top w y ≡ top (suc w) (𝓩.ops.◌⊗◌ x y) ⊕ top (suc w) (𝓩.ops.◌⊗◌ x y)))
          ⊎ ((suc (Exp (suc w)) ≡ suc (suc (Exp w))) × (odd x ⊗ top w y ≡ top (suc w) (𝓩.ops.◌⊗◌ x y)))
      go (inl (e, f)) = inl (ap suc e, f)
      go (inr (e, f)) = inr (ap suc e, f)

  module _ (𝓗 : Halving 𝓚) where
    abbrev F : Type 0
    F = Frac K

    abbrev Va : ℕ → K → F
    Va e z = low 𝓗.halves z e

    abbrev pub Part : ℕ → F → Type 0
    Part w x = (z : Z) × (x ≡ low 𝓗.halves (top w z) (Exp w))

    pub part-zero : (w : ℕ) → Part w (frac 𝟘 0)
    part-zero w = (𝓩.ops.𝟘, sym (low-zero 𝓚 𝓗 (Exp w)) ∙ ap (Va (Exp w)) (sym (top-zero w)))

    pub part-add : (w : ℕ) (x y : F) → Part w x → Part w y → Part w ((dyadic ops 𝓗.halves).◌⊕◌ x y)
    part-add w x y (a, h) (b, k) =
        (𝓩.ops.◌⊕◌ a b, ap₂ (dyadic ops 𝓗.halves).◌⊕◌ h k ∙ value-add 𝓚 𝓗 (Exp w) (top w a) (top w b) ∙ ap (Va (Exp w)) (sym (top-add w a b)))

    -- the numerators of a product: as they are, or twice what they could be
    Times : ℕ → ℕ → Z → Z → Type 0
    Times v w x y = let t = top (v + w) (𝓩.ops.◌⊗◌ x y) in
        ((Exp v + Exp w ≡ suc (Exp (v + w))) × (top v x ⊗ top w y ≡ t ⊕ t)) ⊎ ((Exp v + Exp w ≡ Exp (v + w)) × (top v x ⊗ top w y ≡ t))

    times : (v w : ℕ) (x y : Z) → Times v w x y
    unfolding Times
    times zero w x y =
        let e : w ≡ 0 + w = omega arith in
        let h : Exp w ≡ Exp (0 + w) = ap Exp e in
        inl (omega arith, by-even w x y ∙ ap (λ (u : ℕ). top u (𝓩.ops.◌⊗◌ x y) ⊕ top u (𝓩.ops.◌⊗◌ x y)) e)
    times (suc zero) w x y = go (by-odd w x y)
      where
        e : suc w ≡ 1 + w
        e = omega arith

        h : Exp (suc w) ≡ Exp (1 + w)
        h = ap Exp e

        go : ((Exp (suc w) ≡ Exp w) × (odd x ⊗ top w y ≡ top (suc w) (𝓩.ops.◌⊗◌ x y) ⊕ top (suc w) (𝓩.ops.◌⊗◌ x y)))
            ⊎ ((Exp (suc w) ≡ suc (Exp w)) × (odd x ⊗ top w y ≡ top (suc w) (𝓩.ops.◌⊗◌ x y))) → Times 1 w x y
        go (inl (f, k)) = inl (omega (arith, h), k ∙ ap (λ (u : ℕ). top u (𝓩.ops.◌⊗◌ x y) ⊕ top u (𝓩.ops.◌⊗◌ x y)) e)
        go (inr (f, k)) = inr (omega (arith, h), k ∙ ap (λ (u : ℕ). top u (𝓩.ops.◌⊗◌ x y)) e)
    times (suc (suc v)) w x y = go (times v w x y)
      where
        e : suc (suc (v + w)) ≡ suc (suc v) + w
        e = omega arith

        h : suc (Exp (v + w)) ≡ Exp (suc (suc v) + w)
        h = ap Exp e

        go : Times v w x y → Times (suc (suc v)) w x y
        go (inl (f, k)) = inl (omega (arith, h), k ∙ ap (λ (u : ℕ). top u (𝓩.ops.◌⊗◌ x y) ⊕ top u (𝓩.ops.◌⊗◌ x y)) e)
        go (inr (f, k)) = inr (omega (arith, h), k ∙ ap (λ (u : ℕ). top u (𝓩.ops.◌⊗◌ x y)) e)

    pub part-mul : (v w : ℕ) (x y : F) → Part v x → Part w y → Part (v + w) ((dyadic ops 𝓗.halves).◌⊗◌ x y)
    unfolding Times
    part-mul v w x y (a, h) (b, k) = (𝓩.ops.◌⊗◌ a b, ap₂ (dyadic ops 𝓗.halves).◌⊗◌ h k ∙ value-mul 𝓚 𝓗 (Exp v) (Exp w) (top v a) (top w b) ∙ go (times v w a b))
      where
        t : K
        t = top (v + w) (𝓩.ops.◌⊗◌ a b)

        go : Times v w a b → Va (Exp v + Exp w) (top v a ⊗ top w b) ≡ Va (Exp (v + w)) t
        go (inl (e, f)) = ap₂ (λ (i : ℕ) (z : K). Va i z) e f ∙ low_double 𝓚 𝓗 t (Exp (v + w))
        go (inr (e, f)) = ap₂ (λ (i : ℕ) (z : K). Va i z) e f
