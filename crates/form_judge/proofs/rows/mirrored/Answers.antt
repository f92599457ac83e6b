-- `rows::mirrored` meets its contract.
use mathlib.Core.Path.{sym, ap, ◌∙◌, subst}
use Prim.Native.Nat.{ℕ, ◌+◌, ◌*◌, ◌-◌, ◌<◌}
use native.Mathlib.Omega.{arith}
use lib.ListN.{get_or}
use lib.IntN.{pos}
use mir.Syntax.{w64}
use mir.Val.{SFits}
use Rattle.std.proofs.Common.{rules}
use Rattle.gather.proofs.Laws.{all_more}
use Rattle.exact.specs.Exact.{number_of}
use Rattle.channel.specs.Layout.{numbers_at}
use Rattle.channel.proofs.Restore.{cell_below}
use Rattle.form_judge.specs.Inner.Judging.{mirrors}
use Rattle.form_judge.proofs.Gathered.{or-number}
use Rattle.form_judge.proofs.rows.mirrored.Goals as goal

pub entry-requires-in-loop-j : goal.entry-requires-in-loop-j
entry-requires-in-loop-j c =
    let F = c.args.b.now.form in
    let r = c.args.r in
    let col : r + c.loop-j.j < F.side = omega (arith, c.side-w.ensures.is) in
    (c.requires.0, subst (λ (w : ℕ). (r + c.loop-j.j) * w + r < F.side * F.side) (sym c.side-w.ensures.is) (cell_below F (r + c.loop-j.j) r col c.requires.1))

pub loop-j-preserved : goal.loop-j-preserved
loop-j-preserved c =
    let m = c.args.b.now in
    let z = numbers_at m.form m.words.now 0 in
    let r = c.args.r in
    let j = c.loop-j.j in
    let l = c.loop-j in
    let a = c.apart-a.result in
    let f0 : SFits w64 (get_or a 0 (pos 0)) = search rules in
    let f1 : SFits w64 (get_or a 1 (pos 0)) = search rules in
    let f2 : SFits w64 (get_or a 2 (pos 0)) = search rules in
    let f3 : SFits w64 (get_or a 3 (pos 0)) = search rules in (
      ap (λ (w : ℕ). w - r) c.side-w.ensures.is,
      or-number l.d0-bits l.d1-bits l.d2-bits l.d3-bits (number_of a) f0.sfits f1.sfits f2.sfits f3.sfits
          ∙ all_more j (λ (j : ℕ). mirrors (z (r * m.form.side + (r + j))) (z ((r + j) * m.form.side + r))) l.invariant.1
          (c.apart-a.ensures ∙ (λ i. mirrors (number_of (c.entry.ensures i)) (number_of (c.entry-in-loop-j.ensures i))) ∙ ap (λ (w : ℕ). mirrors (z (r * w + (r + j))) (z ((r + j) * w + r))) c.side-w.ensures.is),
    )
