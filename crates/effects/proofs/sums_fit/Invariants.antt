-- `sums_fit` meets its contract.
use mathlib.Core.Path.{◌≡◌}
use mathlib.Core.Bool.{true}
use Rattle.effects.specs.Effects.{sums_fit}
use Rattle.effects.proofs.sums_fit.Given as goal

abbrev pub invariant-loop-j : goal.invariant-loop-j
invariant-loop-j l = sums_fit l.s l.h.dim l.j ≡ true
