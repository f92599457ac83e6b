-- An operator by its rows, each with entries in two columns: its own, and its partner's. What its numerators stand for, and how large they are.
use Rattle.std.specs.Prelude.{◌≡◌, cond, ℕ, ◌-◌, ◌/◌, ◌%◌, ◌^◌, ◌<◌, ◌≤◌, eqb}
use Rattle.exact.specs.Exact.{Number, number_of, Exact, lowest, narrow_exponent}
use Rattle.exact.specs.Inner.Sizes.{Within, scaled}
use Rattle.gate.specs.declared.rows.Row.{Row}

-- its rows, and the power of two that all numerators are over
pub record Form : Type 0 where
  pub row : ℕ → Row
  pub exponent : ℕ

-- entry 2·r is that in row r's own column, and entry 2·r + 1 that in its partner's: its numerators, and its value
abbrev pub numerators_in : Form → ℕ → Number
numerators_in R i = let w = R.row (i / 2) in number_of (cond (eqb (i % 2) 0) w.own w.other)

abbrev pub entry_in : Form → ℕ → Exact
entry_in R i = lowest (numerators_in R i) R.exponent

-- a number's numerators over 2^k
abbrev pub over : ℕ → Exact → Number
over k x = scaled x.num (k - x.exp)

-- the first m entries are these numbers
pub record Represents (R : Form) (m : ℕ) (E : ℕ → Exact) : Type 0 where
  pub small : R.exponent ≤ narrow_exponent
  pub reached : (i : ℕ) → i < m → (E i).exp ≤ R.exponent
  pub numerators : (i : ℕ) → i < m → numerators_in R i ≡ over R.exponent (E i)

-- the first m entries are from −1 to 1
pub record Sized (R : Form) (m : ℕ) : Type 0 where
  pub small : R.exponent ≤ narrow_exponent
  pub sizes : (i : ℕ) → i < m → Within (2 ^ R.exponent) (numerators_in R i)
