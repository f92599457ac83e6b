-- Exact numbers: (n0 + n1·√2 + n2·i + n3·i·√2) / 2^e, with integers n0 to n3, in lowest form.
use Rattle.std.specs.Prelude.{Bool, not, ◌&&◌, ◌||◌, List, [], ◌∷◌, ℕ, zero, suc, ◌^◌, ◌%◌, eqb, leb, get_or, ℤ, pos, negsuc, nat_abs}
use Rattle.algebra.specs.Ops.{Ops, integers}
use Rattle.algebra.specs.Quadratic.{Pair, pair, quadratic, conjugate}
use Rattle.algebra.specs.Dyadic.{Halves, integer_halves, pair_halves, Frac, frac, low, on_num, dyadic}
use Rattle.algebra.specs.Words.{eqℤ}

-- ---- the numerators: ℤ[√2], then ℤ[√2][i]
abbrev pub root2 : Ops (Pair ℤ)
root2 = quadratic integers (pos 2)

abbrev pub Number : Type 0
Number = Pair (Pair ℤ)

abbrev pub numbers : Ops Number
numbers = quadratic root2 (pair (negsuc 0) (pos 0))

-- n0 + n1·√2 + n2·i + n3·i·√2
abbrev pub number : ℤ → ℤ → ℤ → ℤ → Number
number n0 n1 n2 n3 = pair (pair n0 n1) (pair n2 n3)

-- of a list, and as a list
abbrev pub number_of : List ℤ → Number
number_of l = number (get_or l 0 (pos 0)) (get_or l 1 (pos 0)) (get_or l 2 (pos 0)) (get_or l 3 (pos 0))

abbrev pub list_of : Number → List ℤ
list_of z = z.re.re ∷ z.re.im ∷ z.im.re ∷ z.im.im ∷ []

-- even if all four are
abbrev pub number_halves : Halves Number
number_halves = pair_halves (pair_halves integer_halves)

-- ---- the fractions
abbrev pub Exact : Type 0
Exact = Frac Number

-- sums and products, in lowest form
abbrev pub exact : Ops Exact
exact = dyadic numbers number_halves

abbrev pub lowest : Number → ℕ → Exact
lowest = low number_halves

abbrev pub conj : Exact → Exact
conj = on_num (conjugate root2)

abbrev pub half : Exact → Exact
half x = lowest x.num (suc x.exp)

abbrev pub imaginary : Exact
imaginary = frac (number (pos 0) (pos 0) (pos 1) (pos 0)) 0

-- √2 / 2
abbrev pub inv_sqrt_two : Exact
inv_sqrt_two = frac (number (pos 0) (pos 1) (pos 0) (pos 0)) 1

abbrev pub power_of : Exact → ℕ → Exact
power_of x zero = exact.𝟙
power_of x (suc k) = exact.◌⊗◌ (power_of x k) x

-- (1 + i) / √2
abbrev pub turn : Exact
turn = exact.◌⊗◌ (exact.◌⊕◌ exact.𝟙 imaginary) inv_sqrt_two

-- ((1 + i) / √2)^(k mod 8)
abbrev pub omega : ℕ → Exact
omega k = power_of turn (k % 8)

-- ---- the ranges
abbrev pub max_numerator : ℕ
max_numerator = 2 ^ 61

abbrev pub max_exponent : ℕ
max_exponent = 60

abbrev pub narrow_exponent : ℕ
narrow_exponent = 29

abbrev pub narrow_numerator : ℕ
narrow_numerator = 2 ^ narrow_exponent

-- each numerator lies from −m to m
abbrev pub within : ℕ → Number → Bool
within m z = ((leb (nat_abs z.re.re) m && leb (nat_abs z.re.im) m) && leb (nat_abs z.im.re) m) && leb (nat_abs z.im.im) m

abbrev pub in_range : Exact → Bool
in_range x = within max_numerator x.num && leb x.exp max_exponent

-- e is 0, or some numerator is odd
abbrev pub is_lowest : Exact → Bool
is_lowest x = eqb x.exp 0 || not (number_halves.even x.num)

abbrev pub well_formed : Exact → Bool
well_formed x = in_range x && is_lowest x

abbrev pub narrow : Exact → Bool
narrow x = within narrow_numerator x.num && leb x.exp narrow_exponent

-- all four numerators are 0
abbrev pub is_zero : Number → Bool
is_zero z = ((eqb (nat_abs z.re.re) 0 && eqb (nat_abs z.re.im) 0) && eqb (nat_abs z.im.re) 0) && eqb (nat_abs z.im.im) 0

-- ---- equality: lowest forms are unique
abbrev pub equal : Exact → Exact → Bool
equal x y =
    ((eqℤ x.num.re.re y.num.re.re && eqℤ x.num.re.im y.num.re.im) && (eqℤ x.num.im.re y.num.im.re && eqℤ x.num.im.im y.num.im.im)) && eqb x.exp y.exp
