-- Numbers of one side: (a + b·i)·√2^w / 2^e. Sums of one side stay on it, products add the sides, and on an even side there is no √2 part.
use mathlib.Core.Path.{◌≡◌, refl, sym, ap, ap₂, subst, subst₂}
use mathlib.Core.Bool.{Bool, true, false, cond}
use mathlib.Core.List.{List, [], ◌∷◌}
use Prim.Native.Nat.{ℕ, zero, suc, ◌+◌}
use native.Mathlib.Omega.{arith}
use lib.IntN.{ℤ, pos, neg_ℤ, ◌+ℤ◌}
use Rattle.algebra.specs.Quadratic.{Pair, pair}
use Rattle.algebra.specs.Dyadic.{halfℤ, frac, power}
use Rattle.algebra.proofs.Ring.{ℤR}
use Rattle.algebra.proofs.Solver.{Expr, con, var, eqn}
use Rattle.exact.specs.Exact.{Number, number, numbers, number_halves, Exact, lowest, conj}
use Rattle.exact.proofs.Coordinates.{formulas}
use Rattle.kraus.proofs.Weigh.{Graded}
use Rattle.plain.specs.Profile.{Plain}

-- the numerators that are 0: n1 and n3 on an even side, n0 and n2 on an odd one
abbrev pub Side : ℕ → Number → Type 0
Side zero z = (z.re.im ≡ pos 0) × (z.im.im ≡ pos 0)
Side (suc zero) z = (z.re.re ≡ pos 0) × (z.im.re ≡ pos 0)
Side (suc (suc w)) z = Side w z

pub side-zero : (w : ℕ) → Side w numbers.𝟘
side-zero zero = (refl, refl)
side-zero (suc zero) = (refl, refl)
side-zero (suc (suc w)) = side-zero w

pub side-add : (w : ℕ) (y z : Number) → Side w y → Side w z → Side w (numbers.◌⊕◌ y z)
side-add zero y z h k = (ap₂ ◌+ℤ◌ h.0 k.0, ap₂ ◌+ℤ◌ h.1 k.1)
side-add (suc zero) y z h k = (ap₂ ◌+ℤ◌ h.0 k.0, ap₂ ◌+ℤ◌ h.1 k.1)
side-add (suc (suc w)) y z h k = side-add w y z h k

-- ---- products
-- a number of each side
abbrev even : {A : Type 0} → A → A → A → Pair (Pair A)
even o a b = pair (pair a o) (pair b o)

abbrev odd : {A : Type 0} → A → A → A → Pair (Pair A)
odd o a b = pair (pair o a) (pair o b)

even_is : (z : Number) → Side 0 z → even (pos 0) z.re.re z.im.re ≡ z
even_is z h = λ i. number z.re.re (sym h.0 i) z.im.re (sym h.1 i)

odd_is : (z : Number) → Side 1 z → odd (pos 0) z.re.im z.im.im ≡ z
odd_is z h = λ i. number (sym h.0 i) z.re.im (sym h.1 i) z.im.im

-- a coordinate of a product of two such, as a formula of four variables, is 0
module _ (a b c d : ℤ) where
  abbrev by : (Expr → Expr → Expr → Pair (Pair Expr)) → (Expr → Expr → Expr → Pair (Pair Expr)) → Pair (Pair Expr)
  by f g = formulas.◌⊗◌ (f (con (pos 0)) (var 0) (var 1)) (g (con (pos 0)) (var 2) (var 3))

  abbrev o : Expr
  o = con (pos 0)

  abbrev vars : List ℤ
  vars = a ∷ b ∷ c ∷ d ∷ []

  even-even : Side 0 (numbers.◌⊗◌ (even (pos 0) a b) (even (pos 0) c d))
  even-even = (eqn ℤR vars (by even even).re.im o tt, eqn ℤR vars (by even even).im.im o tt)

  even_odd : Side 1 (numbers.◌⊗◌ (even (pos 0) a b) (odd (pos 0) c d))
  even_odd = (eqn ℤR vars (by even odd).re.re o tt, eqn ℤR vars (by even odd).im.re o tt)

  odd_even : Side 1 (numbers.◌⊗◌ (odd (pos 0) a b) (even (pos 0) c d))
  odd_even = (eqn ℤR vars (by odd even).re.re o tt, eqn ℤR vars (by odd even).im.re o tt)

  odd-odd : Side 0 (numbers.◌⊗◌ (odd (pos 0) a b) (odd (pos 0) c d))
  odd-odd = (eqn ℤR vars (by odd odd).re.im o tt, eqn ℤR vars (by odd odd).im.im o tt)

pub side-mul : (v w : ℕ) (y z : Number) → Side v y → Side w z → Side (v + w) (numbers.◌⊗◌ y z)
side-mul zero zero y z h k = subst₂ (λ (p q : Number). Side 0 (numbers.◌⊗◌ p q)) (even_is y h) (even_is z k) (even-even y.re.re y.im.re z.re.re z.im.re)
side-mul zero (suc zero) y z h k = subst₂ (λ (p q : Number). Side 1 (numbers.◌⊗◌ p q)) (even_is y h) (odd_is z k) (even_odd y.re.re y.im.re z.re.im z.im.im)
side-mul (suc zero) zero y z h k = subst₂ (λ (p q : Number). Side 1 (numbers.◌⊗◌ p q)) (odd_is y h) (even_is z k) (odd_even y.re.im y.im.im z.re.re z.im.re)
side-mul (suc zero) (suc zero) y z h k = subst₂ (λ (p q : Number). Side 0 (numbers.◌⊗◌ p q)) (odd_is y h) (odd_is z k) (odd-odd y.re.im y.im.im z.re.im z.im.im)
side-mul zero (suc (suc w)) y z h k =
    let e : suc (suc (0 + w)) ≡ 0 + suc (suc w) = omega arith in subst (λ (u : ℕ). Side u (numbers.◌⊗◌ y z)) e (side-mul zero w y z h k)
side-mul (suc zero) (suc (suc w)) y z h k =
    let e : suc (suc (1 + w)) ≡ 1 + suc (suc w) = omega arith in subst (λ (u : ℕ). Side u (numbers.◌⊗◌ y z)) e (side-mul (suc zero) w y z h k)
side-mul (suc (suc v)) w y z h k =
    let e : suc (suc (v + w)) ≡ suc (suc v) + w = omega arith in subst (λ (u : ℕ). Side u (numbers.◌⊗◌ y z)) e (side-mul v w y z h k)

-- ---- lowest forms
side-half : (w : ℕ) (z : Number) → Side w z → Side w (number_halves.half z)
side-half zero z h = (ap halfℤ h.0, ap halfℤ h.1)
side-half (suc zero) z h = (ap halfℤ h.0, ap halfℤ h.1)
side-half (suc (suc w)) z h = side-half w z h

pub side-low : (w : ℕ) (z : Number) (e : ℕ) → Side w z → Side w (lowest z e).num
side-low w z zero h = h
side-low w z (suc e) h = go (number_halves.even z) (side-low w (number_halves.half z) e (side-half w z h))
  where
    go : (b : Bool) → Side w (lowest (number_halves.half z) e).num → Side w (cond b (lowest (number_halves.half z) e) (frac z (suc e))).num
    go true r = r
    go false r = h

side-power : (k : ℕ) → Side 0 (power numbers k)
side-power zero = (refl, refl)
side-power (suc k) = side-add 0 (power numbers k) (power numbers k) (side-power k) (side-power k)

pub side-scaled : (w : ℕ) (z : Number) (k : ℕ) → Side w z → Side w (numbers.◌⊗◌ z (power numbers k))
side-scaled w z k h = let e : w + 0 ≡ w = omega arith in subst (λ (u : ℕ). Side u (numbers.◌⊗◌ z (power numbers k))) e (side-mul w 0 z (power numbers k) h (side-power k))

-- ---- exact numbers
abbrev pub Sided : ℕ → Exact → Type 0
Sided w x = Side w x.num

abbrev pub sided : Graded
sided = record {
  Part = Sided;
  zero = side-zero;
  add = λ w x y h k. side-low w _ (x.exp + y.exp) (side-add w _ _ (side-scaled w x.num y.exp h) (side-scaled w y.num x.exp k));
  mul = λ v w x y h k. side-low (v + w) _ (x.exp + y.exp) (side-mul v w x.num y.num h k);
}

pub sided-conj : (w : ℕ) (x : Exact) → Sided w x → Sided w (conj x)
sided-conj zero x h = (h.0, ap neg_ℤ h.1)
sided-conj (suc zero) x h = (h.0, ap neg_ℤ h.1)
sided-conj (suc (suc w)) x h = sided-conj w x h

pub even-plain : (w : ℕ) (x : Exact) → Sided (w + w) x → Plain x
even-plain zero x h = record { n1 = h.0; n3 = h.1 }
even-plain (suc w) x h = let e : suc w + suc w ≡ suc (suc (w + w)) = omega arith in even-plain w x (subst (λ (u : ℕ). Sided u x) e h)
