-- A sum is too large where its first term is, raised to the second's exponent: that is decided before the term is scaled.
-- A product of narrow numbers is never too large, and coordinates from −1 to 1 are so in lowest form.
use mathlib.Core.Path.{◌≡◌, refl, sym, ap, ◌∙◌, subst}
use mathlib.Core.Bool.{Bool, true, false, cond, ◌&&◌}
use Prim.Native.Nat.{ℕ, zero, suc, ◌+◌, ◌*◌, ◌-◌, ◌/◌, ◌%◌, ◌^◌, ◌≤◌, ◌<◌}
use native.Mathlib.Nat.{pow-succ'}
use native.Mathlib.Decide.{dec_lt}
use native.Mathlib.Omega.{arith}
use lib.Dec.{T, eqb, leb, lit≤}
use lib.IntN.{ℤ, pos, negsuc, nat_abs, ◌+ℤ◌, ◌*ℤ◌}
use borrow.Author.Tests.{le-leb}
use Rattle.algebra.specs.Dyadic.{frac, evenℤ, halfℤ}
use Rattle.algebra.proofs.Signed.{limit, parity-add, scaled-even, abs-left}
use Rattle.algebra.proofs.Quadratic.{ℤ√2i}
use Rattle.algebra.proofs.Dyadic.{low-odd}
use Rattle.exact.specs.Exact.{Number, numbers, number_halves, Exact, exact, lowest, within, in_range, well_formed, max_numerator, max_exponent, narrow_numerator}
use Rattle.exact.specs.Claims.{ProductsFit}
use Rattle.exact.specs.Inner.Sizes.{Within, Coords, scaled, room_numerator}
use Rattle.exact.proofs.Exact.{exact_halving, mul-lowest, lowest-odd}
use Rattle.exact.proofs.Align.{aligned, scaled-none, widen, mul-within}
use Rattle.exact.proofs.Sizes.{and4, within_of, of-within, well_bound, well_within, well_lowest, narrow_bound, narrow_exponent_lem}

-- z times 2^d has room where z is at most the room / 2^d
pub can_scale : (z : Number) (d : ℕ) → within (room_numerator / 2 ^ d) z ≡ within room_numerator (scaled z d)
can_scale z d = and4 (limit z.re.re room_numerator d) (limit z.re.im room_numerator d) (limit z.im.re room_numerator d) (limit z.im.im room_numerator d)

-- too large a term makes too large a sum
sum_large : (u v : Number) → Within max_numerator v → within room_numerator u ≡ false → within max_numerator (numbers.◌⊕◌ u v) ≡ false
sum_large u v w e = go (within max_numerator (numbers.◌⊕◌ u v)) refl
  where
    one : (a b : ℤ) → nat_abs (a +ℤ b) ≤ max_numerator → nat_abs b ≤ max_numerator → nat_abs a ≤ room_numerator
    one a b h k = omega (arith, abs-left a b)

    bound : Within max_numerator (numbers.◌⊕◌ u v) → Within room_numerator u
    bound s = record {
      w0 = one u.re.re v.re.re s.w0 w.w0;
      w1 = one u.re.im v.re.im s.w1 w.w1;
      w2 = one u.im.re v.im.re s.w2 w.w2;
      w3 = one u.im.im v.im.im s.w3 w.w3;
    }

    go : (b : Bool) → within max_numerator (numbers.◌⊕◌ u v) ≡ b → within max_numerator (numbers.◌⊕◌ u v) ≡ false
    go false p = p
    go true p = absurd (subst T (sym (of-within room_numerator u (bound (within_of max_numerator (numbers.◌⊕◌ u v) p))) ∙ e) tt)

-- an even multiple does not change a number's parity
even_sum : (x y : ℤ) (d : ℕ) → 0 < d → evenℤ (x *ℤ pos (2 ^ d) +ℤ y) ≡ evenℤ y
even_sum x y d h = ap (λ (n : ℕ). eqb n 0) same
  where
    same : nat_abs (x *ℤ pos (2 ^ d) +ℤ y) % 2 ≡ nat_abs y % 2
    same = omega (arith, parity-add (x *ℤ pos (2 ^ d)) y, scaled-even x d h)

even_aligned : (u v : Number) (d : ℕ) → 0 < d → number_halves.even (numbers.◌⊕◌ (scaled u d) v) ≡ number_halves.even v
even_aligned u v d h = λ i.
    (even_sum u.re.re v.re.re d h i && even_sum u.re.im v.re.im d h i) && (even_sum u.im.re v.im.re d h i && even_sum u.im.im v.im.im d h i)

-- ---- the sum of two well-formed numbers, the first over the smaller power
module _ (x y : Exact) (g : well_formed x ≡ true) (h : well_formed y ≡ true) (le : x.exp ≤ y.exp) where
  abbrev total : Number
  total = numbers.◌⊕◌ (scaled x.num (y.exp - x.exp)) y.num

  -- at unequal exponents it is in lowest form as it stands
  stands : x.exp < y.exp → exact.◌⊕◌ x y ≡ frac total y.exp
  stands p = sym (aligned x y le)
      ∙ low-odd ℤ√2i exact_halving total y.exp (even_aligned x.num y.num (y.exp - x.exp) (omega arith) ∙ lowest-odd y (well_lowest y h) (omega arith))

  pub overflow : within room_numerator (scaled x.num (y.exp - x.exp)) ≡ false → in_range (exact.◌⊕◌ x y) ≡ false
  overflow e = go (dec_lt x.exp y.exp)
    where
      go : Dec (x.exp < y.exp) → in_range (exact.◌⊕◌ x y) ≡ false
      go (yes p) = ap in_range (stands p) ∙ ap (λ (b : Bool). b && leb y.exp max_exponent) (sum_large (scaled x.num (y.exp - x.exp)) y.num (well_bound y h) e)
      go (no p) =
          let d : y.exp - x.exp ≡ 0 = omega arith in
          absurd (subst T (sym (ap (within room_numerator) (scaled-none x.num (y.exp - x.exp) d) ∙ of-within room_numerator x.num (well_within x g)) ∙ e) tt)

-- ---- a product of narrow numbers is in range
half-size : (z : ℤ) → nat_abs (halfℤ z) ≤ nat_abs z
half-size (pos n) = omega arith
half-size (negsuc n) = omega arith

-- reduced numerators are no larger, nor is their exponent
pub lowest-size : (m : ℕ) (z : Number) (e : ℕ) → Within m z → Within m (lowest z e).num × ((lowest z e).exp ≤ e)
lowest-size m z zero w = (w, omega arith)
lowest-size m z (suc e) w = go (number_halves.even z) (lowest-size m (number_halves.half z) e shrunk)
  where
    shrunk : Within m (number_halves.half z)
    shrunk = record {
      w0 = omega (arith, half-size z.re.re, w.w0);
      w1 = omega (arith, half-size z.re.im, w.w1);
      w2 = omega (arith, half-size z.im.re, w.w2);
      w3 = omega (arith, half-size z.im.im, w.w3);
    }

    go : (b : Bool) → Within m (lowest (number_halves.half z) e).num × ((lowest (number_halves.half z) e).exp ≤ e)
        → Within m (cond b (lowest (number_halves.half z) e) (frac z (suc e))).num × ((cond b (lowest (number_halves.half z) e) (frac z (suc e))).exp ≤ suc e)
    go true r = (r.0, omega (arith, r.1))
    go false r = (w, omega arith)

half-within : (m : ℕ) (z : ℤ) → nat_abs z ≤ 2 * m → nat_abs (halfℤ z) ≤ m
half-within m (pos n) h = omega (arith, h)
half-within m (negsuc n) h = omega (arith, h)

-- coordinates from −1 to 1 are so in lowest form
pub lowest-coords : (k : ℕ) (z : Number) (e : ℕ) → e ≤ k → Within (1 * 2 ^ e) z → Coords 1 k (lowest z e)
lowest-coords k z zero l w = record { exponent = l; size = w }
lowest-coords k z (suc e) l w = go (number_halves.even z) (lowest-coords k (number_halves.half z) e (omega arith) shrunk)
  where
    twice : 1 * 2 ^ suc e ≡ 2 * (1 * 2 ^ e)
    twice = omega (arith, pow-succ' 2 e)

    one : (a : ℤ) → nat_abs a ≤ 1 * 2 ^ suc e → nat_abs (halfℤ a) ≤ 1 * 2 ^ e
    one a u = half-within (1 * 2 ^ e) a (omega (arith, u, twice))

    shrunk : Within (1 * 2 ^ e) (number_halves.half z)
    shrunk = record { w0 = one z.re.re w.w0; w1 = one z.re.im w.w1; w2 = one z.im.re w.w2; w3 = one z.im.im w.w3 }

    go : (b : Bool) → Coords 1 k (lowest (number_halves.half z) e) → Coords 1 k (cond b (lowest (number_halves.half z) e) (frac z (suc e)))
    go true r = r
    go false r = record { exponent = l; size = w }

pub products_fit : ProductsFit
products_fit x y g h =
    let z = numbers.◌⊗◌ x.num y.num in
    let e = x.exp + y.exp in
    let s = lowest-size max_numerator z e (widen (6 * (narrow_numerator * narrow_numerator)) max_numerator z (lit≤ tt) (mul-within narrow_numerator narrow_numerator x.num y.num (narrow_bound x g) (narrow_bound y h))) in
    let l : (lowest z e).exp ≤ max_exponent = omega (arith, s.1, narrow_exponent_lem x g, narrow_exponent_lem y h) in
    λ i. (of-within max_numerator (lowest z e).num s.0 i && le-leb (lowest z e).exp max_exponent l i) && mul-lowest x y i
