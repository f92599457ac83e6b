-- Sizes of factors over one power of two, and of their products.
use mathlib.Core.Path.{sym, subst}
use mathlib.Core.List.{List}
use Prim.Native.Nat.{ℕ, ◌+◌, ◌*◌, ◌-◌, ◌^◌, ◌≤◌, ◌<◌}
use native.Mathlib.Nat.{le_trans, le_of_eq, one-mul}
use native.Mathlib.Omega.{arith}
use lib.Dec.{lit≤}
use lib.IntN.{ℤ}
use Rattle.algebra.specs.Quadratic.{conjugate}
use Rattle.algebra.proofs.Parts.{abs_neg}
use Rattle.algebra.proofs.Blocks.{block_in_lem}
use Rattle.exact.specs.Exact.{Number, numbers, root2, narrow_exponent, narrow_numerator, max_numerator}
use Rattle.exact.specs.Inner.Sizes.{Within, scaled}
use Rattle.exact.proofs.Align.{widen, power-within, raised, mul-within}
use Rattle.share.specs.Share.{number_in}
use Rattle.rows.specs.Inner.Rows.{exponent_in}
use Rattle.overlaps.specs.Inner.Overlap.{raise, raised_at, Raised, Liftable}

-- factors over at most 2^e are narrow over 2^e
pub raised_of : {m : List ℤ} {k w e : ℕ} → Liftable m k w e → (i : ℕ) → i < w → Raised m (k + i * 4) (raise m k w e)
raised_of {m} {k} {w} {e} f i hi =
    let n = exponent_in m k w in
    let z = number_in m (k + i * 4) in
    let own = subst (λ (b : ℕ). Within b z) (sym (one-mul (2 ^ n))) (f.factors.sizes i hi) in
    record {
      room = omega (arith, f.factors.room, block_in_lem hi 4);
      shift = omega (arith, f.small);
      narrow = widen (1 * 2 ^ narrow_exponent) narrow_numerator (raised_at (e - n) m (k + i * 4)) (lit≤ tt) (power-within 1 e narrow_exponent (scaled z (e - n)) f.small (raised 1 n e z f.reached own));
    }

conj-within : (k : ℕ) (z : Number) → Within k z → Within k (conjugate root2 z)
conj-within k z w = record {
  w0 = w.w0;
  w1 = w.w1;
  w2 = le_trans (le_of_eq (abs_neg z.im.re)) w.w2;
  w3 = le_trans (le_of_eq (abs_neg z.im.im)) w.w3;
}

-- a product of two
pub term-within : (x y : Number) → Within narrow_numerator x → Within narrow_numerator y → Within max_numerator (numbers.◌⊗◌ x (conjugate root2 y))
term-within x y w v =
    let z = conjugate root2 y in
    widen (6 * (narrow_numerator * narrow_numerator)) max_numerator (numbers.◌⊗◌ x z) (lit≤ tt) (mul-within narrow_numerator narrow_numerator x z w (conj-within narrow_numerator y v))
