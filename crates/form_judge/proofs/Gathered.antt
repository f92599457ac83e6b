-- What is gathered by `|` is 0 exactly where all that was gathered is.
use mathlib.Core.Path.{◌≡◌, refl, sym, ap, ◌∙◌}
use mathlib.Core.Bool.{Bool, true, false, ◌&&◌}
use Prim.Native.Nat.{ℕ, ◌+◌, ◌^◌, ◌<◌}
use lib.Bits.{bit_or, or_lt}
use lib.Dec.{eqb}
use lib.IntN.{ℤ, nat_abs}
use lib.Signed.{mag}
use mir.Syntax.{w64}
use mir.Val.{to_z, of_z}
use mir.Facts.{of_z-to_z}
use Rattle.algebra.specs.Lists.{all_below}
use Rattle.algebra.proofs.Signed.{or_zero, word-zero}
use Rattle.exact.specs.Exact.{Number, number, is_zero}
use Rattle.gather.proofs.Laws.{all_more}
use Rattle.channel.proofs.ByWords.{zero_test}
use Rattle.channel.proofs.Words.{bits-zero}

module _ {a b : ℕ} (h : a < 2 ^ 64) (k : b < 2 ^ 64) where
  pub either : eqb (of_z w64 (to_z w64 (bit_or a b))) 0 ≡ (eqb a 0 && eqb b 0)
  either = ap (λ (m : ℕ). eqb m 0) (of_z-to_z {w = w64} (record { fits = or_lt 64 a b h k })) ∙ or_zero a b

  -- one test more
  pub one_more : (n : ℕ) (p : ℕ → Bool) → eqb a 0 ≡ all_below n p → eqb b 0 ≡ p n → eqb (of_z w64 (to_z w64 (bit_or a b))) 0 ≡ all_below (n + 1) p
  one_more n p e f = either ∙ all_more n p e f

-- ---- numerators, each gathered by itself
-- a word from its bits is 0 where they are
pub bits-abs : (n : ℕ) → eqb (nat_abs (to_z w64 n)) 0 ≡ eqb n 0
bits-abs n = zero_test (to_z w64 n) ∙ sym (bits-zero n)

or-abs : (a : ℕ) (y : ℤ) → mag y < 2 ^ 63 → eqb (nat_abs (to_z w64 (bit_or a (of_z w64 y)))) 0 ≡ (eqb (nat_abs (to_z w64 a)) 0 && eqb (nat_abs y) 0)
or-abs a y h = bits-abs (bit_or a (of_z w64 y)) ∙ or_zero a (of_z w64 y) ∙ (λ i. sym (bits-abs a) i && word-zero y h i)

exchange : (a b c d : Bool) → ((a && b) && (c && d)) ≡ ((a && c) && (b && d))
exchange true true c d = refl
exchange true false true d = refl
exchange true false false d = refl
exchange false b c d = refl

pub or-number : (a b c d : ℕ) (x : Number) → mag x.re.re < 2 ^ 63 → mag x.re.im < 2 ^ 63 → mag x.im.re < 2 ^ 63 → mag x.im.im < 2 ^ 63
    → is_zero (number (to_z w64 (bit_or a (of_z w64 x.re.re))) (to_z w64 (bit_or b (of_z w64 x.re.im))) (to_z w64 (bit_or c (of_z w64 x.im.re))) (to_z w64 (bit_or d (of_z w64 x.im.im))))
    ≡ (is_zero (number (to_z w64 a) (to_z w64 b) (to_z w64 c) (to_z w64 d)) && is_zero x)
or-number a b c d x f g h k =
    let p = λ (n : ℕ). eqb (nat_abs (to_z w64 n)) 0 in
    let q = λ (y : ℤ). eqb (nat_abs y) 0 in
    (λ i. ((or-abs a x.re.re f i && or-abs b x.re.im g i) && or-abs c x.im.re h i) && or-abs d x.im.im k i)
    ∙ (λ i. (exchange (p a) (q x.re.re) (p b) (q x.re.im) i && (p c && q x.im.re)) && (p d && q x.im.im))
    ∙ (λ i. exchange (p a && p b) (q x.re.re && q x.re.im) (p c) (q x.im.re) i && (p d && q x.im.im))
    ∙ exchange ((p a && p b) && p c) ((q x.re.re && q x.re.im) && q x.im.re) (p d) (q x.im.im)
