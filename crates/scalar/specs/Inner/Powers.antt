-- The test of a table of the powers of ω: each entry is its power.
use Rattle.std.specs.Prelude.{Bool, ◌&&◌, List, [], ℕ, eqb, length, get_or}
use Rattle.algebra.specs.Lists.{all_below}
use Rattle.exact.specs.Exact.{equal, power_of, turn}
use Rattle.scalar.specs.declared.Scalar.{Scalar}
use Rattle.scalar.specs.Calls.{value}

-- the entry has four numerators, and is the power
abbrev pub is_power : List Scalar → ℕ → Bool
is_power t j = let x = get_or t j (record { n = []; e = 0 }) in eqb (length x.n) 4 && equal (value x) (power_of turn j)

abbrev pub are_powers : List Scalar → Bool
are_powers t = all_below 8 (is_power t)
