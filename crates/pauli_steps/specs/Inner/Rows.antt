-- The rows of an operator about an axis, two entries to a row.
use Rattle.std.specs.Prelude.{◌≡◌, Bool, cond, List, ℕ, ◌+◌, ◌*◌, ◌/◌, ◌%◌, eqb, count_ones, ℤ}
use Rattle.std.specs.Int.Bits.{bit_and, bit_xor}
use Rattle.exact.specs.Exact.{Number, numbers, Exact, exact, narrow_exponent, number_of, list_of}
use Rattle.exact.specs.Inner.Sizes.{Coords}
use Rattle.scalar.specs.Calls.{value, scalar_of}
use Rattle.gate.specs.declared.rows.Row.{Row}
use Rattle.gate.specs.Inner.Rows.{Form}
use Rattle.pauli_nodes.specs.Nodes.{turned}
use Rattle.pauli_nodes.specs.Inner.Masks.{Mask, parity}
use Rattle.pauli_program.specs.Operators.{Coefficients}
use Rattle.pauli_steps.specs.declared.coefficients.Pair.{Pair}
use Rattle.pauli_steps.specs.declared.rows.Rows.{Rows}

-- coefficients as the code's struct
abbrev pub pair_of : Coefficients → Pair
pair_of f = record { own = scalar_of f.own; other = scalar_of f.other }

-- both numbers of a pair are from −1 to 1, and over one power of two
pub record Level (p : Pair) : Type 0 where
  pub own : Coords 1 narrow_exponent (value p.own)
  pub other : Coords 1 narrow_exponent (value p.other)
  pub level : p.own.e ≡ p.other.e

-- the entry of an axis in row r, by its quarter turns: it lies in column r ^ x
abbrev pub turns_in : Mask → ℕ → ℕ
turns_in m r = m.turns + 2 * parity (bit_and m.z (bit_xor r m.x))

abbrev pub axis_entry : Mask → ℕ → Exact
axis_entry m r = turned (turns_in m r)

-- entry 2·r is that before the row's own column, entry 2·r + 1 that before the axis's
abbrev pub axis_row : Mask → Exact → Exact → ℕ → Exact
axis_row m p q i = cond (eqb (i % 2) 0) p (exact.◌⊗◌ q (axis_entry m (i / 2)))

-- ---- as the code's structs
-- i^t times the numerators
abbrev pub turned_number : List ℤ → ℕ → Number
turned_number x t = numbers.◌⊗◌ (number_of x) (turned t).num

-- a row of p·1 + q·A, where the entry of A is i^t
abbrev pub row_about : Pair → ℕ → Row
row_about p t = record { own = p.own.n; other = list_of (turned_number p.other.n t) }

-- p·1 + q·A by its rows
abbrev pub rows_about : Mask → Pair → Form
rows_about m p = record { row = λ r. row_about p (turns_in m r); exponent = p.own.e }

-- an even number of the bits `signs` of r are 1
abbrev pub is_even : ℕ → ℕ → Bool
is_even signs r = eqb (count_ones (bit_and signs r) % 2) 0

-- the rows of the struct that a measure makes
abbrev pub rows_of : Rows → Form
rows_of R = record { row = λ r. cond (is_even R.signs (bit_xor r R.flips)) R.low R.high; exponent = R.exponent }
