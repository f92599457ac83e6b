-- `turn_matrix_by` meets its contract.
use mathlib.Core.Path.{◌≡◌, sym}
use Prim.Native.Nat.{ℕ, ◌+◌, ◌*◌, ◌/◌, ◌%◌}
use native.Mathlib.Omega.{arith}
use Rattle.rows.specs.Inner.Rows.{exponent_in}
use Rattle.gate.specs.Inner.Tables.{rows_by}
use Rattle.branches.specs.Inner.Step.{row_numerators}
use Rattle.branches.proofs.Numerators.{exponent_read}
use Rattle.branches.proofs.Applied.{applied_shared, shared_there}
use Rattle.branches.proofs.cores.turn_matrix_by.Goals as goal

pub returns-then-e-eq0 : goal.returns-then-e-eq0
returns-then-e-eq0 c =
    let a = c.args in
    let f = c.requires.1.factors in
    let none : exponent_in a.work.now a.at (a.d * a.d) ≡ 0 = omega (arith, exponent_read f, c.if-e-eq0.true) in
    let R = rows_by a.held a.m a.core in
    applied_shared a.work.now a.m R a.at a.at a.d (omega (arith, f.room)) c.turn_rows.ensures (sym none)
    (shared_there f (λ (i : ℕ). row_numerators a.work.now a.m R a.at a.d (i / a.d) (i % a.d)) c.turn_rows.ensures none (0 + a.core.e) (omega (arith, c.if-e-eq0.true)))

pub returns : goal.returns
returns c =
    let a = c.args in
    let f = c.requires.1.factors in
    applied_shared a.work.now a.m (rows_by a.held a.m a.core) a.at a.at a.d (omega (arith, f.room)) c.turn_rows.ensures (exponent_read f) c.share_matrix.ensures
