-- Laws of the exact numbers: sums, products and conjugates, and lowest forms, which are unique.
use mathlib.Core.Path.{◌≡◌, refl, sym, ap, ap₂, ◌∙◌}
use mathlib.Core.Bool.{Bool, true, false, cond, not, ◌&&◌, ◌||◌}
use Prim.Native.Nat.{ℕ, zero, suc, ◌+◌, ◌%◌, ◌<◌}
use native.Mathlib.Nat as N
use native.Mathlib.Omega.{arith}
use lib.Dec.{eqb}
use lib.IntN.{ℤ, pos, negsuc, neg_ℤ}
use borrow.Author.Tests.{not-true, ne_eqb}
use Rattle.algebra.specs.Quadratic.{conjugate}
use Rattle.algebra.specs.Dyadic.{frac, power, plus, evenℤ}
use Rattle.algebra.proofs.Semi.{Semi, zero-mul}
use Rattle.algebra.proofs.Ring.{ℤR, semi, mul-one}
use Rattle.algebra.proofs.Quadratic.{ℤ√2, ℤ√2i, conj_add, conj_mul, conj-conj as number-conj-conj, conj-one}
use Rattle.algebra.proofs.Parts.{abs_neg}
use Rattle.algebra.proofs.Dyadic.{Halving, ℤ-halving, quad_halving, fractions, low-odd, map_low, map_plus, map_by}
use Rattle.exact.specs.Exact.{Number, numbers, number_halves, root2, Exact, exact, lowest, conj, is_lowest}

abbrev pub exact_halving : Halving ℤ√2i
exact_halving = quad_halving ℤ√2 (ℤ√2.ops.int (negsuc 0)) (quad_halving ℤR (pos 2) ℤ-halving)

-- the laws of sums and products
abbrev pub exacts : Semi
exacts = fractions ℤ√2i exact_halving

-- ---- lowest form: e is 0 or some numerator is odd, exactly where reducing changes nothing
not-whole : (x : Exact) → 0 < x.exp → is_lowest x ≡ not (number_halves.even x.num)
not-whole x p = ap (λ (b : Bool). b || not (number_halves.even x.num)) (ne_eqb x.exp 0 (λ h. omega arith))

pub lowest-odd : (x : Exact) → is_lowest x ≡ true → 0 < x.exp → number_halves.even x.num ≡ false
lowest-odd x h p = not-true (number_halves.even x.num) (sym (not-whole x p) ∙ h)

pub is_lowest_lem : (x : Exact) → is_lowest x ≡ true → lowest x.num x.exp ≡ x
is_lowest_lem x h = go x.exp h
  where
    go : (e : ℕ) → is_lowest (frac x.num e) ≡ true → lowest x.num e ≡ frac x.num e
    go zero h = refl
    go (suc e) h = low-odd ℤ√2i exact_halving x.num (suc e) (lowest-odd (frac x.num (suc e)) h (omega arith))

pub lowest-form : (z : Number) (e : ℕ) → is_lowest (lowest z e) ≡ true
lowest-form z zero = refl
lowest-form z (suc e) = go (number_halves.even z) refl (lowest-form (number_halves.half z) e)
  where
    go : (b : Bool) → number_halves.even z ≡ b → is_lowest (lowest (number_halves.half z) e) ≡ true
        → is_lowest (cond b (lowest (number_halves.half z) e) (frac z (suc e))) ≡ true
    go true h r = r
    go false h r = not-whole (frac z (suc e)) (omega arith) ∙ ap not h

-- sums and products are in lowest form
pub add-lowest : (x y : Exact) → is_lowest (exact.◌⊕◌ x y) ≡ true
add-lowest x y = lowest-form (plus numbers x y).num (x.exp + y.exp)

pub mul-lowest : (x y : Exact) → is_lowest (exact.◌⊗◌ x y) ≡ true
mul-lowest x y = lowest-form (numbers.◌⊗◌ x.num y.num) (x.exp + y.exp)

-- ---- 0 and 1
pub zero-plus : (x : Exact) → is_lowest x ≡ true → exact.◌⊕◌ exact.𝟘 x ≡ x
zero-plus x h =
    ap₂ lowest (ap₂ numbers.◌⊕◌ (zero-mul (semi ℤ√2i) (power numbers x.exp)) (mul-one ℤ√2i x.num) ∙ ℤ√2i.zero-add x.num) (N.zero-add x.exp)
    ∙ is_lowest_lem x h

pub plus-zero : (x : Exact) → is_lowest x ≡ true → exact.◌⊕◌ x exact.𝟘 ≡ x
plus-zero x h = exacts.add_comm x exact.𝟘 ∙ zero-plus x h

pub one-by : (x : Exact) → is_lowest x ≡ true → exact.◌⊗◌ exact.𝟙 x ≡ x
one-by x h = ap₂ lowest (ℤ√2i.one-mul x.num) (N.zero-add x.exp) ∙ is_lowest_lem x h

-- ---- conjugates
even_neg : (z : ℤ) → evenℤ (neg_ℤ z) ≡ evenℤ z
even_neg z = ap (λ (n : ℕ). eqb (n % 2) 0) (abs_neg z)

conj-even : (z : Number) → number_halves.even (conjugate root2 z) ≡ number_halves.even z
conj-even z = λ i. (evenℤ z.re.re && evenℤ z.re.im) && (even_neg z.im.re i && even_neg z.im.im i)

abbrev minus_one : ℤ√2.K
minus_one = ℤ√2.ops.int (negsuc 0)

pub conj-plus : (x y : Exact) → conj (exact.◌⊕◌ x y) ≡ exact.◌⊕◌ (conj x) (conj y)
conj-plus = map_plus ℤ√2i exact_halving (conjugate root2) (conj_add ℤ√2 minus_one) conj-even (conj_mul ℤ√2 minus_one) (conj-one ℤ√2 minus_one)

pub conj-by : (x y : Exact) → conj (exact.◌⊗◌ x y) ≡ exact.◌⊗◌ (conj x) (conj y)
conj-by = map_by ℤ√2i exact_halving (conjugate root2) (conj_add ℤ√2 minus_one) conj-even (conj_mul ℤ√2 minus_one) (conj-one ℤ√2 minus_one)

pub conj-lowest : (z : Number) (e : ℕ) → conj (lowest z e) ≡ lowest (conjugate root2 z) e
conj-lowest = map_low ℤ√2i exact_halving (conjugate root2) (conj_add ℤ√2 minus_one) conj-even

pub conj-conj : (x : Exact) → conj (conj x) ≡ x
conj-conj x = ap (λ (z : Number). frac z x.exp) (number-conj-conj ℤ√2 minus_one x.num)

pub conj-𝟘 : conj exact.𝟘 ≡ exact.𝟘
conj-𝟘 = refl

pub conj-form : (x : Exact) → is_lowest (conj x) ≡ is_lowest x
conj-form x = ap (λ (b : Bool). eqb x.exp 0 || not b) (conj-even x.num)
