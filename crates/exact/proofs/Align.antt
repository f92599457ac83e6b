-- The exact sum at the larger exponent, and the sizes of the numerators on the way.
use mathlib.Core.Path.{◌≡◌, sym, ap, ◌∙◌}
use mathlib.Core.List.{List, [], ◌∷◌}
use Prim.Native.Nat.{ℕ, ◌+◌, ◌*◌, ◌-◌, ◌^◌, ◌≤◌}
use native.Mathlib.Nat.{mul_assoc, mul-le-mul, le_refl, le_trans, le_of_eq}
use native.Mathlib.Omega.{arith}
use lib.Dec.{lit≤}
use lib.Pow.{pow-add, pow_mono}
use lib.IntN.{ℤ, pos, nat_abs, ◌*ℤ◌}
use Rattle.algebra.specs.Quadratic.{Pair, pair}
use Rattle.algebra.specs.Dyadic.{power}
use Rattle.algebra.proofs.Parts.{abs-mul}
use Rattle.algebra.proofs.Ring.{ℤR, mul-one}
use Rattle.algebra.proofs.Solver.{Expr, con, var, ◌⊠◌, eqn, look, ⟦◌⟧}
use Rattle.algebra.proofs.Quadratic.{ℤ√2i}
use Rattle.algebra.proofs.Bound as Bound
use Rattle.algebra.proofs.Dyadic.{power_int, align}
use Rattle.exact.specs.Exact.{Number, number, numbers, Exact, exact, lowest, max_numerator, narrow_numerator, narrow_exponent}
use Rattle.exact.specs.Inner.Sizes.{Within, scaled, Coords, room_numerator}
use Rattle.exact.proofs.Exact.{exact_halving}
use Rattle.exact.proofs.Coordinates.{formulas, x, xy, eight, bounds, bounded}

-- ---- numerators times a power of two
abbrev multiple : Pair (Pair Expr)
multiple = formulas.◌⊗◌ x (pair (pair (var 4) (con (pos 0))) (pair (con (pos 0)) (con (pos 0))))

pub scaled_is : (z : Number) (k : ℕ) → scaled z k ≡ numbers.◌⊗◌ z (power numbers k)
scaled_is z k =
    let xs : List ℤ = z.re.re ∷ z.re.im ∷ z.im.re ∷ z.im.im ∷ pos (2 ^ k) ∷ [] in
    let p0 = eqn ℤR xs (var 0 ⊠ var 4) multiple.re.re tt in
    let p1 = eqn ℤR xs (var 1 ⊠ var 4) multiple.re.im tt in
    let p2 = eqn ℤR xs (var 2 ⊠ var 4) multiple.im.re tt in
    let p3 = eqn ℤR xs (var 3 ⊠ var 4) multiple.im.im tt in
    (λ i. number (p0 i) (p1 i) (p2 i) (p3 i)) ∙ ap (numbers.◌⊗◌ z) (sym (power_int ℤ√2i exact_halving k))

pub scaled-none : (z : Number) (k : ℕ) → k ≡ 0 → scaled z k ≡ z
scaled-none z k h = scaled_is z k ∙ ap (λ (j : ℕ). numbers.◌⊗◌ z (power numbers j)) h ∙ mul-one ℤ√2i z

-- ---- the sum
pub aligned : (x y : Exact) → x.exp ≤ y.exp → lowest (numbers.◌⊕◌ (scaled x.num (y.exp - x.exp)) y.num) y.exp ≡ exact.◌⊕◌ x y
aligned x y h = ap (λ (z : Number). lowest (numbers.◌⊕◌ z y.num) y.exp) (scaled_is x.num (y.exp - x.exp)) ∙ align ℤ√2i exact_halving x y h

-- ---- sizes
pub widen : (m n : ℕ) (z : Number) → m ≤ n → Within m z → Within n z
widen m n z h w = record { w0 = le_trans w.w0 h; w1 = le_trans w.w1 h; w2 = le_trans w.w2 h; w3 = le_trans w.w3 h }

pub power-within : (m e k : ℕ) (z : Number) → e ≤ k → Within (m * 2 ^ e) z → Within (m * 2 ^ k) z
power-within m e k z h = widen (m * 2 ^ e) (m * 2 ^ k) z (mul-le-mul (le_refl m) (pow_mono h))

-- numerators over 2^e, raised to 2^f
pub raised : (m e f : ℕ) (z : Number) → e ≤ f → Within (m * 2 ^ e) z → Within (m * 2 ^ f) (scaled z (f - e))
raised m e f z h w = record { w0 = one z.re.re w.w0; w1 = one z.re.im w.w1; w2 = one z.im.re w.w2; w3 = one z.im.im w.w3 }
  where
    back : e + (f - e) ≡ f
    back = omega arith

    same : m * 2 ^ e * 2 ^ (f - e) ≡ m * 2 ^ f
    same = mul_assoc m (2 ^ e) (2 ^ (f - e)) ∙ ap (λ (x : ℕ). m * x) (sym (pow-add 2 e (f - e)) ∙ ap (λ (x : ℕ). 2 ^ x) back)

    one : (x : ℤ) → nat_abs x ≤ m * 2 ^ e → nat_abs (x *ℤ pos (2 ^ (f - e))) ≤ m * 2 ^ f
    one x u = le_trans (le_of_eq (abs-mul x (pos (2 ^ (f - e))))) (le_trans (mul-le-mul u (le_refl (2 ^ (f - e)))) (le_of_eq same))

pub mul-within : (p q : ℕ) (x y : Number) → Within p x → Within q y → Within (6 * (p * q)) (numbers.◌⊗◌ x y)
mul-within p q x y h k = record { w0 = size xy.re.re (omega arith); w1 = size xy.re.im (omega arith); w2 = size xy.im.re (omega arith); w3 = size xy.im.im (omega arith) }
  where
    size : (e : Expr) → Bound.bnd (look 0 (bounds p q)) e ≤ 6 * (p * q) → nat_abs (⟦◌⟧ ℤR (look (pos 0) (eight x y)) e) ≤ 6 * (p * q)
    size e u = le_trans (Bound.bounded (eight x y) (bounds p q) e (bounded h k)) u

-- a factor that `product` takes
pub factor_within : (x : Exact) → Coords 1 narrow_exponent x → Within narrow_numerator x.num
factor_within x b = widen (1 * 2 ^ narrow_exponent) narrow_numerator x.num (lit≤ tt) (power-within 1 x.exp narrow_exponent x.num b.exponent b.size)

-- what is in range has room as a first term
pub roomy : (z : Number) → Within max_numerator z → Within room_numerator z
roomy z = widen max_numerator room_numerator z (lit≤ tt)
