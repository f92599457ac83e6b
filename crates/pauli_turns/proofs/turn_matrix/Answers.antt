-- `turn_matrix` meets its contract.
use mathlib.Core.Path.{◌≡◌, sym}
use Prim.Native.Nat.{ℕ, ◌+◌, ◌*◌, ◌/◌, ◌%◌}
use native.Mathlib.Omega.{arith}
use Rattle.rows.specs.Inner.Rows.{exponent_in}
use Rattle.branches.specs.Inner.Step.{row_numerators}
use Rattle.branches.proofs.Numerators.{exponent_read}
use Rattle.branches.proofs.Applied.{applied_shared, shared_there}
use Rattle.pauli_steps.specs.Inner.Rows.{rows_about}
use Rattle.pauli_turns.specs.Inner.Turns.{form_of}
use Rattle.pauli_turns.proofs.turn_matrix.Goals as goal

pub returns-then-e-eq0 : goal.returns-then-e-eq0
returns-then-e-eq0 g c =
    let a = c.args in
    let f = c.requires.1.factors in
    let none : exponent_in a.work.now a.at (a.d * a.d) ≡ 0 = omega (arith, exponent_read f, c.if-e-eq0.true) in
    let R = rows_about (form_of a.axis) a.pair in
    applied_shared a.work.now a.axis.flips R a.at a.at a.d (omega (arith, f.room)) c.turn_rows.ensures (sym none)
    (shared_there f (λ (i : ℕ). row_numerators a.work.now a.axis.flips R a.at a.d (i / a.d) (i % a.d)) c.turn_rows.ensures none (0 + a.pair.own.e) (omega (arith, c.if-e-eq0.true)))

pub returns : goal.returns
returns g c =
    let a = c.args in
    let f = c.requires.1.factors in
    applied_shared a.work.now a.axis.flips (rows_about (form_of a.axis) a.pair) a.at a.at a.d (omega (arith, f.room)) c.turn_rows.ensures (exponent_read f) c.share_matrix.ensures
