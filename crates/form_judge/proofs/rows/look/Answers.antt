-- `rows::look` meets its contract.
use mathlib.Core.Path.{◌≡◌, sym, ap, ◌∙◌, subst}
use Prim.Native.Nat.{ℕ, ◌+◌, ◌*◌, ◌-◌, ◌<◌, ◌≤◌}
use native.Mathlib.Nat.{mul_assoc, suc-mul}
use native.Mathlib.Omega.{arith}
use lib.ListN.{length}
use Rattle.algebra.proofs.Blocks.{block_in_lem}
use Rattle.gather.specs.Words.{seen_of}
use Rattle.gather.proofs.Laws.{all_more, seen-cut, seen-more}
use Rattle.channel.specs.Layout.{Form, record_head, record_size, numbers_at}
use Rattle.form_judge.specs.Inner.Judging.{row_fits}
use Rattle.form_judge.proofs.rows.look.Goals as goal

pub loop-r-preserved : goal.loop-r-preserved
loop-r-preserved c =
    let m = c.args.b.now in
    let l = m.words.now in
    let w = m.form.side in
    let r = c.loop-r.r in
    let n = c.side-w.result * 4 in
    let wide : n ≡ w * 4 = ap (λ (k : ℕ). k * 4) c.side-w.ensures.is in
    let whole : record_head + w * w * 4 ≤ length l = subst (λ (F : Form). record_size F ≤ length l) c.requires m.inside in
    let inside : record_head + r * n + n ≤ length l =
    subst (λ (k : ℕ). record_head + r * k + k ≤ length l) (sym wide) (omega (arith, whole, mul_assoc w w 4, block_in_lem (subst (λ (k : ℕ). r < k) c.side-w.ensures.is c.loop-r-test.true) (w * 4))) in
    let next : r * (w * 4) + w * 4 ≡ (r + 1) * (w * 4) = omega (arith, suc-mul r (w * 4)) in (
      seen-more l record_head (r * (w * 4)) (w * 4) c.loop-r.invariant.0
          (c.see-g.ensures ∙ seen-cut l (record_head + r * n) n (record_head + r * n + n - (record_head + r * n)) (omega arith) inside ∙ (λ i. seen_of l (record_head + r * wide i) (wide i)))
          ∙ ap (seen_of l record_head) next,
      all_more r (row_fits c.args.to.half c.args.to.plain w (numbers_at m.form l 0)) c.loop-r.invariant.1 c.row_fits-fits.ensures,
    )
