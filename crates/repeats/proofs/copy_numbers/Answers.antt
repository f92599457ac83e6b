-- `copy_numbers` meets its contract.
use mathlib.Core.Path.{ap}
use mathlib.Core.Logic.{inl, inr}
use native.Mathlib.Nat.{le_refl}
use Rattle.algebra.proofs.Blocks.{begin, again}
use Rattle.exact.specs.Exact.{list_of}
use Rattle.rows.proofs.Rows.{number_read, unread}
use Rattle.repeats.proofs.copy_numbers.Goals as goal

pub loop-c-init : goal.loop-c-init
loop-c-init c = begin (λ k. le_refl 4)

pub loop-c-preserved : goal.loop-c-preserved
loop-c-preserved c =
    let src = unread c.loop-c.invariant (inr (inl c.requires.0)) c.loop-c-test.true in
    again c.loop-c.invariant c.loop-c-test.true c.write_numerators.ensures (ap list_of (number_read src c.numerators_at-x.ensures))
