-- `turn_rows` meets its contract.
use mathlib.Core.Path.{◌≡◌}
use Rattle.branches.proofs.Pairs.{square, paired}
use Rattle.pauli_steps.specs.Inner.Rows.{rows_about}
use Rattle.pauli_turns.specs.Inner.Turns.{form_of}
use Rattle.pauli_turns.proofs.turn_rows.Given as goal

abbrev pub invariant-loop-r : goal.invariant-loop-r
invariant-loop-r g l = l.work ≡ square l.initial.work l.at l.d (paired l.initial.work l.axis.flips (rows_about (form_of l.axis) l.fn.pair) l.at l.d l.r)
