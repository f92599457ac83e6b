-- The zero test, on numbers and as code makes it.
use mathlib.Core.Path.{◌≡◌}
use mathlib.Core.Bool.{true}
use Prim.Native.Nat.{◌<◌, ◌^◌}
use lib.Bits.{bit_or}
use lib.Dec.{eqb}
use lib.Signed.{mag}
use mir.Syntax.{w64}
use mir.Val.{of_z}
use Rattle.algebra.proofs.Tests.{and_split}
use Rattle.algebra.proofs.Signed.{or_zero, word-zero, abs-zero}
use Rattle.exact.specs.Exact.{Number, number, numbers, is_zero}

pub zero_is : (z : Number) → is_zero z ≡ true → z ≡ numbers.𝟘
zero_is z e =
    let abc = and_split _ _ e in
    let ab = and_split _ _ abc.0 in
    let a = and_split _ _ ab.0 in
    λ i. number (abs-zero z.re.re a.0 i) (abs-zero z.re.im a.1 i) (abs-zero z.im.re ab.1 i) (abs-zero z.im.im abc.1 i)

-- the test `(a | b | c | d) == 0`
pub union-zero : (z : Number) → mag z.re.re < 2 ^ 63 → mag z.re.im < 2 ^ 63 → mag z.im.re < 2 ^ 63 → mag z.im.im < 2 ^ 63
    → eqb (bit_or (bit_or (bit_or (of_z w64 z.re.re) (of_z w64 z.re.im)) (of_z w64 z.im.re)) (of_z w64 z.im.im)) 0 ≡ is_zero z
union-zero z h0 h1 h2 h3 = rw (or_zero, or_zero, or_zero, word-zero z.re.re h0, word-zero z.re.im h1, word-zero z.im.re h2, word-zero z.im.im h3)
