-- Sizes of what a form keeps.
use mathlib.Core.Path.{◌≡◌, ap, ◌∙◌}
use mathlib.Core.Bool.{Bool, true, false, cond}
use Prim.Native.Nat.{ℕ, zero, suc, ◌+◌, ◌*◌, ◌-◌, ◌/◌, ◌≤◌}
use native.Mathlib.Nat.{mul-le-mul, le_refl}
use native.Mathlib.Omega.{arith}
use lib.Arith.{digits_div}
use Rattle.channel.specs.Layout.{entry_size, half_rows}
use Rattle.channel.proofs.Sizes.{half-start}

pub entry-least : (b : Bool) → 2 ≤ entry_size b
entry-least true = omega arith
entry-least false = omega arith

pub entry-most : (b : Bool) → entry_size b ≤ 4
entry-most true = omega arith
entry-most false = omega arith

-- ---- rows from the diagonal on
pub half_is : (w r : ℕ) → r ≤ w → r * (2 * w + 1 - r) / 2 ≡ half_rows w r
half_is w r h = ap (λ (k : ℕ). k / 2) twice ∙ digits_div (half_rows w r) (omega arith)
  where
    by : (k t : ℕ) → k + r ≡ 2 * w + 1 → 2 * t + r * r ≡ 2 * (r * w) + r → r * k ≡ t * 2 + 0
    by k t e f = let q : r * (k + r) ≡ r * (2 * w + 1) = ap (λ (x : ℕ). r * x) e in omega arith

    twice : r * (2 * w + 1 - r) ≡ half_rows w r * 2 + 0
    twice = by (2 * w + 1 - r) (half_rows w r) (omega arith) (half-start w r h)

-- no more than the square
pub rows_small : (w r : ℕ) (b : Bool) → r ≤ w → w ≤ 256 → cond b (half_rows w r) (r * w) ≤ 65536
rows_small w r true h p = by r (half_rows w r) (half-start w r h) (square r) (mul-le-mul h (le_refl w)) (mul-le-mul p p)
  where
    square : (r : ℕ) → r ≤ r * r
    square zero = omega arith
    square (suc r) = let q : 1 * suc r ≤ suc r * suc r = mul-le-mul (omega arith) (le_refl (suc r)) in omega arith

    by : (r t : ℕ) → 2 * t + r * r ≡ 2 * (r * w) + r → r ≤ r * r → r * w ≤ w * w → w * w ≤ 256 * 256 → t ≤ 65536
    by r t e s u v = omega arith
rows_small w r false h p = let u = mul-le-mul h (le_refl w) in let v = mul-le-mul p p in omega arith

-- the words of rows
pub words_small : (w : ℕ) (b p : Bool) → w ≤ 256 → cond b (half_rows w w) (w * w) * entry_size p ≤ 262144
words_small w b p h = let q = mul-le-mul (rows_small w w b (le_refl w) h) (entry-most p) in omega arith
