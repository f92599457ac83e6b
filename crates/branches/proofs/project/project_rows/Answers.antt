-- `project_rows` meets its contract.
use mathlib.Core.Path.{◌≡◌, sym, ap, ◌∙◌, subst}
use mathlib.Core.Bool.{Bool, true, false, cond}
use mathlib.Core.List.{List}
use Prim.Native.Nat.{ℕ, ◌<◌}
use native.Mathlib.Nat.{le_refl, mul-le-mul}
use native.Mathlib.Omega.{arith}
use lib.Bits.{bit_xor, xor_zero_r}
use lib.IntN.{ℤ}
use Rattle.algebra.proofs.Blocks.{done, block_in_lem}
use Rattle.gate.specs.Inner.Rows.{Form}
use Rattle.branches.specs.Inner.Step.{Applying}
use Rattle.branches.specs.Inner.Project.{projection}
use Rattle.branches.proofs.Applied.{none_applied}
use Rattle.branches.proofs.Projections.{copying, copied_more, clearing, cleared_more}
use Rattle.branches.proofs.project.project_rows.Goals as goal
use Rattle.branches.proofs.project.project_rows.Goals.{then-r-m, else-r-m}

pub loop-r-init : goal.loop-r-init
loop-r-init c = let a = c.args in none_applied a.work.now a.m (projection a.m a.high a.moved) a.old a.new a.d

-- the row that is read
read_in : {l : List ℤ} {m : ℕ} {R : Form} {old new d r flip : ℕ} → Applying l m R old new d → r < d → (moved : Bool) → flip ≡ cond moved m 0 → bit_xor r flip < d
read_in {d = d} {r} p h true e = subst (λ (k : ℕ). bit_xor r k < d) (sym e) (p.turning.below r h)
read_in {d = d} {r} p h false e = subst (λ (k : ℕ). k < d) (sym (ap (bit_xor r) e ∙ xor_zero_r r)) h

pub overflow_mul-to : goal.overflow_mul-to
overflow_mul-to c = let p = c.requires in omega (arith, p.new_room, block_in_lem c.loop-r-test.true c.args.d)

pub overflow_mul-to-in-loop-r : goal.overflow_mul-to-in-loop-r
overflow_mul-to-in-loop-r c = let p = c.requires in omega (arith, p.new_room, block_in_lem c.loop-r-test.true c.args.d)

pub overflow_add-to : goal.overflow_add-to
overflow_add-to c = let p = c.requires in omega (arith, p.new_room, block_in_lem c.loop-r-test.true c.args.d)

pub overflow_mul-s : goal.overflow_mul-s
overflow_mul-s c = let p = c.requires in omega (arith, p.turning.factors.room, block_in_lem (read_in p c.loop-r-test.true c.args.moved c.masked-flip.ensures) c.args.d)

pub overflow_mul-s-then-r-m : goal.overflow_mul-s-then-r-m
overflow_mul-s-then-r-m c = let p = c.requires in omega (arith, p.turning.factors.room, block_in_lem (read_in p c.loop-r-test.true c.args.moved c.masked-flip.ensures) c.args.d)

pub overflow_add-old : goal.overflow_add-old
overflow_add-old c = let p = c.requires in omega (arith, p.turning.factors.room, block_in_lem (read_in p c.loop-r-test.true c.args.moved c.masked-flip.ensures) c.args.d)

pub overflow_mul-r : goal.overflow_mul-r
overflow_mul-r c = let p = c.requires in omega (arith, p.turning.factors.room, block_in_lem c.loop-r-test.true c.args.d)

pub overflow_mul-r-else-r-m : goal.overflow_mul-r-else-r-m
overflow_mul-r-else-r-m c = let p = c.requires in omega (arith, p.turning.factors.room, block_in_lem c.loop-r-test.true c.args.d)

pub overflow_add-old-else-r-m : goal.overflow_add-old-else-r-m
overflow_add-old-else-r-m c = let p = c.requires in omega (arith, p.turning.factors.room, block_in_lem c.loop-r-test.true c.args.d)

pub returns : goal.returns
returns c = done c.loop-r.invariant (mul-le-mul c.loop-r-test.false (le_refl c.args.d))

pub copy_row-requires : goal.copy_row-requires
copy_row-requires c = copying c.args.high c.args.moved c.requires c.loop-r-test.true c.loop-r.invariant c.masked-keep.ensures c.masked-flip.ensures c.if-r-m.true

pub multiply_row-requires : goal.multiply_row-requires
multiply_row-requires c = clearing c.args.high c.args.moved c.requires c.loop-r-test.true c.loop-r.invariant c.masked-keep.ensures c.if-r-m.false

pub loop-r-preserved : goal.loop-r-preserved
loop-r-preserved c =
    let a = c.args in
    let p = c.requires in
    let h = c.loop-r-test.true in
    let w = c.loop-r.invariant in
    elim c.if-r-m.branch [
      | then-r-m t ↦ copied_more a.high a.moved p h w c.masked-keep.ensures c.masked-flip.ensures t.if-r-m.true (t.work-is ∙ t.copy_row.ensures)
      | else-r-m t ↦ cleared_more a.high a.moved p h w c.masked-keep.ensures t.if-r-m.false (t.work-is ∙ t.multiply_row.ensures)
    ]
