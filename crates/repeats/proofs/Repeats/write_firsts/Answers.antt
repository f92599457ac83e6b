-- `Repeats::write_firsts` meets its contract.
use mathlib.Core.Path.{sym, ap, ◌∙◌}
use mathlib.Core.Bool.{Bool, ◌&&◌}
use Prim.Native.Nat.{ℕ, ◌/◌, ◌%◌, ◌^◌}
use native.Mathlib.Numerals.{add-one}
use native.Mathlib.Omega.{arith}
use lib.Dec.{eqb}
use Rattle.algebra.specs.Lists.{all_below}
use Rattle.share.proofs.Laws.{none-set}
use Rattle.overlaps.proofs.Rows.{no_rows, rows-room}
use Rattle.repeats.specs.Inner.Repeats.{row_clear}
use Rattle.repeats.proofs.Rows.{back, write_more}
use Rattle.repeats.proofs.Repeats.write_firsts.Goals as goal

pub loop-r-init : goal.loop-r-init
loop-r-init c = (omega arith, no_rows c.args.res.now c.args.out c.args.self.w _, λ some j h. none-set j)

pub write_first-g-requires : goal.write_first-g-requires
write_first-g-requires c = record { inside = c.loop-r-test.true; room = rows-room c.loop-r-test.true c.loop-r.invariant.1 c.requires }

pub loop-r-preserved : goal.loop-r-preserved
loop-r-preserved c =
    let s = c.args.self in
    let r = c.loop-r.r in
    let v = c.loop-r.invariant in
    let g = c.write_first-g.ensures in
    let bits = back c.write_first-g.result (record { sfits = c.write_first-g.type_inv }) in (
      omega arith,
      write_more s.work.now s.k s.firsts.now c.loop-r-test.true v.1 g.words,
      λ some j h. ap (λ (n : ℕ). eqb (n / 2 ^ j % 2) 0) bits ∙ g.bits some j h ∙ ap (λ (b : Bool). b && row_clear s.work.now s.k s.firsts.now s.w j r) (v.2 some j h)
          ∙ ap (λ (n : ℕ). all_below n (row_clear s.work.now s.k s.firsts.now s.w j)) (sym (add-one r)),
    )
