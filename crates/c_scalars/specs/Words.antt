-- A scalar that a C program hands over as five words.
use Rattle.std.specs.Prelude.{cond, List, ℕ, suc, get_or, ℤ, pos, nat_abs}
use Rattle.algebra.specs.Dyadic.{frac}
use Rattle.algebra.specs.Words.{up_to}
use Rattle.exact.specs.Exact.{Exact, max_exponent}
use Rattle.cells.specs.Cells.{cell_at}

-- a word that is no exponent stands for the least number that is none
abbrev pub exponent_of : ℤ → ℕ
exponent_of z = cond (up_to max_exponent z) (nat_abs z) (suc max_exponent)

abbrev pub operand : List ℤ → Exact
operand l = frac (cell_at l 0).num (exponent_of (get_or l 4 (pos 0)))
