-- `Projections::apply` meets its contract.
use mathlib.Core.Path.{refl}
use Prim.Native.Nat.{◌*◌}
use native.Mathlib.Omega.{arith}
use Rattle.branches.proofs.Numerators.{exponent_read}
use Rattle.branches.proofs.Projections.{projected_shared, over_one_shared}
use Rattle.branches.proofs.project.ProjectionsKrausPair.apply.Goals as goal

pub returns-then-e-eq0 : goal.returns-then-e-eq0
returns-then-e-eq0 c =
    let a = c.args in
    let p = a.self.now in
    let r = c.requires in
    projected_shared a.work.now p.mask p.resets a.v a.old a.new a.d (omega (arith, r.new_room)) c.project_rows.ensures (exponent_read r.turning.factors)
    (over_one_shared c.project_rows.new.work a.new (a.d * a.d) _ c.if-e-eq0.true refl)

pub returns : goal.returns
returns c =
    let a = c.args in
    let p = a.self.now in
    let r = c.requires in
    projected_shared a.work.now p.mask p.resets a.v a.old a.new a.d (omega (arith, r.new_room)) c.project_rows.ensures (exponent_read r.turning.factors) c.share_matrix.ensures
