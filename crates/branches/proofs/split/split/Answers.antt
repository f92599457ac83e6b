-- `split` meets its contract.
use Prim.Native.Nat.{◌*◌, ◌≤◌}
use native.Mathlib.Nat.{le_refl, mul-le-mul}
use native.Mathlib.Omega.{arith}
use Rattle.std.specs.Prelude.{unwrap_or}
use Rattle.algebra.proofs.Blocks.{done}
use Rattle.branches.specs.Inner.Store.{no_bit}
use Rattle.branches.specs.Inner.Bank.{branch_size}
use Rattle.branches.proofs.Steps.{none_stepped, old_end, new_end, turn_applying, turn-store, turn-room, turn_more}
use Rattle.branches.proofs.split.split.Goals as goal

pub loop-j-init : goal.loop-j-init
loop-j-init g c = none_stepped c.requires (unwrap_or c.args.bit no_bit)

pub overflow_add-old : goal.overflow_add-old
overflow_add-old g c = omega (arith, old_end c.requires c.loop-j-test.true c.matrix_size-matrix.ensures)

pub overflow_add-old-in-loop-j : goal.overflow_add-old-in-loop-j
overflow_add-old-in-loop-j g c = omega (arith, old_end c.requires c.loop-j-test.true c.matrix_size-matrix.ensures)

pub overflow_add-new-in-loop-j : goal.overflow_add-new-in-loop-j
overflow_add-new-in-loop-j g c = omega (arith, new_end c.requires c.loop-j-test.true c.matrix_size-matrix.ensures)

pub overflow_mul-j-end : goal.overflow_mul-j-end
overflow_mul-j-end g c =
    let b = c.args.from in
    let some : 1 ≤ branch_size b.d = omega arith in
    omega (arith, c.requires.to_room, mul-le-mul (le_refl (b.count * 2)) some)

pub overflow_mul-old : goal.overflow_mul-old
overflow_mul-old g c = omega (arith, old_end c.requires c.loop-j-test.true c.matrix_size-matrix.ensures)

pub overflow_mul-new : goal.overflow_mul-new
overflow_mul-new g c = omega (arith, new_end c.requires c.loop-j-test.true c.matrix_size-matrix.ensures)

pub overflow_add-new : goal.overflow_add-new
overflow_add-new g c = omega (arith, new_end c.requires c.loop-j-test.true c.matrix_size-matrix.ensures)

pub returns : goal.returns
returns g c = done c.loop-j.invariant c.loop-j-test.false

pub apply-requires : goal.apply-requires
apply-requires g c =
    turn_applying c.requires c.loop-j-test.true c.matrix_size-matrix.ensures (unwrap_or c.args.bit no_bit) c.loop-j.invariant

pub write_store-requires : goal.write_store-requires
write_store-requires g c =
    let p = c.requires in
    let h = c.loop-j-test.true in
    let s = c.matrix_size-matrix.ensures in
    let bit = unwrap_or c.args.bit no_bit in (
      omega arith,
      (turn-room p h s bit c.loop-j.invariant c.apply.ensures, turn-store p h s bit c.loop-j.invariant c.apply.ensures),
    )

pub loop-j-preserved : goal.loop-j-preserved
loop-j-preserved g c =
    turn_more c.requires c.loop-j-test.true c.matrix_size-matrix.ensures (unwrap_or c.args.bit no_bit) c.loop-j.invariant c.apply.ensures c.write_store.ensures
