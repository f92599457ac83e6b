-- A size as a signed word.
use mathlib.Core.Path.{◌≡◌, refl}
use mathlib.Core.Bool.{Bool, true, false, cond}
use Prim.Native.Nat.{◌-◌, ◌^◌}
use native.Mathlib.Omega.{arith}
use lib.Dec.{ltb, lit<}
use lib.IntN.{pos, neg_ℤ}
use borrow.Author.Tests.{ltb-false}
use mir.Syntax.{w64}
use mir.Val.{SFits}
use Rattle.algebra.proofs.Parts.{abs_neg, sfits_abs}
use Rattle.replay.specs.declared.numeral.Digits.{Digits}
use Rattle.replay.specs.Numerals.{signed}

pub signed-fits : (d : Digits) → SFits w64 (signed d)
unfolding signed
signed-fits d = by (ltb (2 ^ 63 - 1) d.size) d.negative refl
  where
    by : (large negative : Bool) → ltb (2 ^ 63 - 1) d.size ≡ large
        → SFits w64 (cond large (cond negative (neg_ℤ (pos (2 ^ 63))) (pos (2 ^ 63 - 1))) (cond negative (neg_ℤ (pos d.size)) (pos d.size)))
    by true true e = record { sfits = lit< tt }
    by true false e = record { sfits = lit< tt }
    by false true e = sfits_abs {w = w64} (omega (arith, abs_neg (pos d.size), ltb-false (2 ^ 63 - 1) d.size e))
    by false false e = sfits_abs {w = w64} (omega (arith, ltb-false (2 ^ 63 - 1) d.size e))
