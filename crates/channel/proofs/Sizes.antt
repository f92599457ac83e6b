-- The sizes of records, and the place of a row in half of a block.
use mathlib.Core.Path.{◌≡◌}
use Prim.Native.Nat.{ℕ, zero, suc, ◌+◌, ◌*◌, ◌≤◌}
use native.Mathlib.Nat.{suc-mul, mul-suc}
use native.Mathlib.Omega.{arith}
use Rattle.channel.specs.Layout.{half_rows}
use Rattle.channel.specs.Forms.{Sizes}

-- row r from the diagonal on: twice its place is r·(2·w + 1 − r)
pub half-start : (w r : ℕ) → r ≤ w → 2 * half_rows w r + r * r ≡ 2 * (r * w) + r
unfolding half_rows
half-start w zero h = omega arith
half-start w (suc r) h = omega (arith, half-start w r (omega arith), suc-mul r w, suc-mul r (suc r), mul-suc r r)

pub sizes : (d : ℕ) → Sizes d
sizes d = record {
  channels = four (d * d * (d * d));
  effects = four (d * d);
  packed = by (d * d) (half_rows (d * d) (d * d)) (half-start (d * d) (d * d) (omega arith));
  plain = two (d * d * (d * d));
}
  where
    four : (k : ℕ) → 4 + k * 4 ≡ 4 + 4 * k
    four k = omega arith

    two : (k : ℕ) → 4 + k * 2 ≡ 4 + 2 * k
    two k = omega arith

    by : (w t : ℕ) → 2 * t + w * w ≡ 2 * (w * w) + w → 4 + t * 4 ≡ 4 + 2 * (w * (w + 1))
    by w t e = omega arith
