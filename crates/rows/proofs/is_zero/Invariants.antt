-- `is_zero` meets its contract: the numbers so far are zero.
use mathlib.Core.Path.{◌≡◌}
use mathlib.Core.Bool.{true}
use Rattle.rows.specs.Inner.Rows.{zeros}
use Rattle.rows.proofs.is_zero.Given as goal

abbrev pub invariant-loop-i : goal.invariant-loop-i
invariant-loop-i l = zeros l.s l.at l.i ≡ true
