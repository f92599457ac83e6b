-- `turn_rows` meets its contract.
use mathlib.Core.Path.{refl, ◌∙◌}
use native.Mathlib.Omega.{arith}
use Rattle.branches.proofs.Pairs.{none_paired, all_paired, mixing, mixed_more, kept_more}
use Rattle.branches.proofs.Chosen.{moved}
use Rattle.branches.proofs.cores.turn_rows.Goals as goal
use Rattle.branches.proofs.cores.turn_rows.Goals.{then-r-s, else-r-s}

pub loop-r-init : goal.loop-r-init
loop-r-init c = none_paired c.requires.1

pub turn_pair-requires-clause-masks : goal.turn_pair-requires-clause-masks
turn_pair-requires-clause-masks c =
    let p = c.requires.1 in
    let h = c.loop-r-test.true in
    (c.requires.0, (omega (arith, p.dim, p.below 0 (omega (arith, h))), (omega (arith, p.dim, h), (c.if-r-s.true, p.sized.small))))

pub turn_pair-requires-clause-mixing : goal.turn_pair-requires-clause-mixing
turn_pair-requires-clause-mixing c = mixing c.requires.1 c.loop-r-test.true c.loop-r.invariant c.if-r-s.true refl refl

pub loop-r-preserved : goal.loop-r-preserved
loop-r-preserved c =
    let p = c.requires.1 in
    let h = c.loop-r-test.true in
    let w = c.loop-r.invariant in
    elim c.if-r-s.branch [
      | then-r-s t ↦ mixed_more p h w t.if-r-s.true refl refl (t.work-is ∙ t.turn_pair.ensures)
      | else-r-s t ↦ t.work-is ∙ kept_more p h w (omega (arith, t.if-r-s.false, moved c.requires.0 c.loop-r.r))
    ]

pub returns : goal.returns
returns c = all_paired c.requires.1 c.loop-r-test.false c.loop-r.invariant
