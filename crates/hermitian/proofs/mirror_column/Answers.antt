-- `mirror_column` meets its contract.
use mathlib.Core.Path.{ap}
use native.Mathlib.Nat.{le_refl}
use native.Mathlib.Omega.{arith}
use Rattle.algebra.specs.Quadratic.{conjugate}
use Rattle.algebra.proofs.Blocks.{begin, again, long}
use Rattle.exact.specs.Exact.{Number, root2, list_of}
use Rattle.hermitian.proofs.Mirrored.{column-room, own_room, column_is, column-small}
use Rattle.hermitian.proofs.mirror_column.Goals as goal

pub loop-c-init : goal.loop-c-init
loop-c-init c = begin (λ k. le_refl 4)

pub write_conj-requires : goal.write_conj-requires
write_conj-requires c =
    let p = c.requires in
    let ws = c.loop-c.invariant in
    let h = c.loop-c-test.true in
    (omega (arith, column-room p ws h, long ws), (omega (arith, own_room p ws h, long ws), column-small p ws h))

pub loop-c-preserved : goal.loop-c-preserved
loop-c-preserved c =
    again c.loop-c.invariant c.loop-c-test.true c.write_conj.ensures (ap (λ (z : Number). list_of (conjugate root2 z)) (column_is c.requires c.loop-c.invariant c.loop-c-test.true))
