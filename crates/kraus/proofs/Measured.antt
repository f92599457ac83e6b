-- The quadratic form n0² + 2·n1² + n2² + 2·n3² of numerators: it is the rational part of |z|², and bounds the coordinates of products.
use mathlib.Core.Path.{◌≡◌, refl, ap₂, ◌∙◌, subst}
use mathlib.Core.List.{List, [], ◌∷◌}
use Prim.Native.Nat.{ℕ, zero, suc, ◌+◌, ◌*◌, ◌-◌, ◌≤◌}
use native.Mathlib.Nat as N
use native.Mathlib.Decide.{dec_le}
use native.Mathlib.Omega.{arith}
use lib.IntN.{ℤ, pos, negsuc, nat_abs, ◌+ℤ◌, ◌*ℤ◌}
use Rattle.algebra.specs.Quadratic.{pair, conjugate}
use Rattle.algebra.proofs.Parts.{abs-add, abs_neg, sq_is}
use Rattle.algebra.proofs.Ring.{ℤR}
use Rattle.algebra.proofs.Solver.{Expr, con, var, ◌⊞◌, ◌⊠◌, ⊟, eqn, look, ⟦◌⟧}
use Rattle.algebra.proofs.Bound as Bound
use Rattle.algebra.proofs.Quadratic.{ℤ√2i}
use Rattle.exact.specs.Exact.{Number, numbers, root2}
use Rattle.exact.proofs.Exact.{exact_halving, conj-lowest}
use Rattle.exact.proofs.Coordinates.{formulas, x, xy, eight}
use Rattle.gate.proofs.Complete.{conjugation}
use Rattle.kraus.proofs.Size.{Measure}

abbrev sq : ℤ → ℕ
sq a = nat_abs a * nat_abs a

abbrev pub form : Number → ℕ
form z = (sq z.re.re + 2 * sq z.re.im) + (sq z.im.re + 2 * sq z.im.im)

abbrev pub coordinate : ℕ → Number → ℤ
coordinate zero z = z.re.re
coordinate (suc zero) z = z.re.im
coordinate (suc (suc zero)) z = z.im.re
coordinate (suc (suc (suc i))) z = z.im.im

abbrev pub size : ℕ → Number → ℕ
size i z = nat_abs (coordinate i z)

abbrev bar : Number → Number
bar = conjugate root2

-- ---- products
amgm : (a b : ℕ) → a * b + a * b ≤ a * a + b * b
amgm a b = go (dec_le a b)
  where
    ordered : (x z : ℕ) → x * (x + z) + x * (x + z) ≤ x * x + (x + z) * (x + z)
    ordered x z = omega (arith, N.mul-add x x z, N.add-mul x z (x + z), N.mul-add z x z, N.mul_comm z x)

    go : Dec (a ≤ b) → a * b + a * b ≤ a * a + b * b
    go (yes l) = let e : a + (b - a) ≡ b = omega arith in subst (λ (y : ℕ). a * y + a * y ≤ a * a + y * y) e (ordered a (b - a))
    go (no l) =
        let e : b + (a - b) ≡ a = omega arith in
        let h : b * a + b * a ≤ b * b + a * a = subst (λ (y : ℕ). b * y + b * y ≤ b * b + y * y) e (ordered b (a - b)) in
        omega (arith, N.mul_comm a b)

module _ (y z : Number) where
  abbrev sizes : List ℕ
  sizes = size 0 y ∷ size 1 y ∷ size 2 y ∷ size 3 y ∷ size 0 z ∷ size 1 z ∷ size 2 z ∷ size 3 z ∷ []

  -- a coordinate of the product, by its formula
  at_most : (e : Expr) → nat_abs (⟦◌⟧ ℤR (look (pos 0) (eight y z)) e) ≤ Bound.bnd (look 0 sizes) e
  at_most e = Bound.bounded (eight y z) sizes e (omega arith)

  mean : (i j : ℕ) → size i y * size j z + size i y * size j z ≤ sq (coordinate i y) + sq (coordinate j z)
  mean i j = amgm (size i y) (size j z)

  pub size_mul : (i : ℕ) → size i (numbers.◌⊗◌ y z) + size i (numbers.◌⊗◌ y z) ≤ form y + form z
  size_mul zero = omega (arith, at_most xy.re.re, mean 0 0, mean 1 1, mean 2 2, mean 3 3)
  size_mul (suc zero) = omega (arith, at_most xy.re.im, mean 0 1, mean 1 0, mean 2 3, mean 3 2)
  size_mul (suc (suc zero)) = omega (arith, at_most xy.im.re, mean 0 2, mean 1 3, mean 2 0, mean 3 1)
  size_mul (suc (suc (suc i))) = omega (arith, at_most xy.im.im, mean 0 3, mean 1 2, mean 2 1, mean 3 0)

form-bar : (z : Number) → form (bar z) ≡ form z
form-bar z = ap₂ (λ (x y : ℕ). (sq z.re.re + 2 * sq z.re.im) + (x * x + 2 * (y * y))) (abs_neg z.im.re) (abs_neg z.im.im)

pub size_bar : (i : ℕ) (y z : Number) → size i (numbers.◌⊗◌ y (bar z)) + size i (numbers.◌⊗◌ y (bar z)) ≤ form y + form z
size_bar i y z = subst (λ (k : ℕ). size i (numbers.◌⊗◌ y (bar z)) + size i (numbers.◌⊗◌ y (bar z)) ≤ form y + k) (form-bar z) (size_mul y (bar z) i)

-- the rational part of conj z times z
pub rational : (z : Number) → (numbers.◌⊗◌ (bar z) z).re.re ≡ pos (form z)
rational z =
    eqn ℤR (z.re.re ∷ z.re.im ∷ z.im.re ∷ z.im.im ∷ [])
    (formulas.◌⊗◌ (pair (pair (var 0) (var 1)) (pair (⊟ (var 2)) (⊟ (var 3)))) x).re.re
    ((var 0 ⊠ var 0 ⊞ con (pos 2) ⊠ (var 1 ⊠ var 1)) ⊞ (var 2 ⊠ var 2 ⊞ con (pos 2) ⊠ (var 3 ⊠ var 3))) tt
    ∙ (λ i. (sq_is z.re.re i +ℤ pos 2 *ℤ sq_is z.re.im i) +ℤ (sq_is z.im.re i +ℤ pos 2 *ℤ sq_is z.im.im i))

-- ---- sums
pub size_zero : (i : ℕ) → size i numbers.𝟘 ≡ 0
size_zero zero = refl
size_zero (suc zero) = refl
size_zero (suc (suc zero)) = refl
size_zero (suc (suc (suc i))) = refl

pub size_add : (i : ℕ) (y z : Number) → size i (numbers.◌⊕◌ y z) ≤ size i y + size i z
size_add zero y z = abs-add y.re.re z.re.re
size_add (suc zero) y z = abs-add y.re.im z.re.im
size_add (suc (suc zero)) y z = abs-add y.im.re z.im.re
size_add (suc (suc (suc i))) y z = abs-add y.im.im z.im.im

abs_twice : (a : ℤ) → nat_abs (a +ℤ a) ≡ nat_abs a + nat_abs a
abs_twice (pos n) = refl
abs_twice (negsuc n) = omega arith

pub size_double : (i : ℕ) (z : Number) → size i (numbers.◌⊕◌ z z) ≡ size i z + size i z
size_double zero z = abs_twice z.re.re
size_double (suc zero) z = abs_twice z.re.im
size_double (suc (suc zero)) z = abs_twice z.im.re
size_double (suc (suc (suc i))) z = abs_twice z.im.im

pub size_square : (i : ℕ) (z : Number) → size i z * size i z ≤ form z
size_square zero z = omega arith
size_square (suc zero) z = omega arith
size_square (suc (suc zero)) z = omega arith
size_square (suc (suc (suc i))) z = omega arith

abbrev pub measure : Measure ℤ√2i exact_halving conjugation
measure = record {
  bar = bar;
  bar_low = conj-lowest;
  ρ = λ z. z.re.re;
  ρ-add = λ y z. refl;
  ρ-zero = refl;
  ρ-one = refl;
  Q = form;
  ρ-Q = rational;
  size = size;
  size_zero = size_zero;
  size_add = size_add;
  size_double = size_double;
  size_square = size_square;
  size_bar = size_bar;
  size_mul = λ i y z. size_mul y z i;
}
