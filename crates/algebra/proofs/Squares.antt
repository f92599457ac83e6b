-- Row and column of a place in a square of d rows.
use Prim.Native.Nat.{ℕ, zero, suc, ◌*◌, ◌/◌, ◌%◌, ◌<◌}
use native.Mathlib.Nat.{mod-lt, div-lt_iff_lt-mul}
use native.Mathlib.Omega.{arith}

dim_pos : (i d : ℕ) → i < d * d → 0 < d
dim_pos i zero h = absurd (omega arith)
dim_pos i (suc d) h = omega arith

pub row_lt : (i d : ℕ) → i < d * d → i / d < d
row_lt i d h = (div-lt_iff_lt-mul (dim_pos i d h)).1 h

pub column_lt : (i d : ℕ) → i < d * d → i % d < d
column_lt i d h = mod-lt i (dim_pos i d h)
