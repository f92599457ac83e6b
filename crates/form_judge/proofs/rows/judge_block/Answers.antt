-- `rows::judge_block` meets its contract.
use Rattle.std.specs.Prelude.{Some}
use mathlib.Core.Path.{refl, sym, ap, ◌∙◌}
use mathlib.Core.Bool.{Bool}
use Prim.Native.Nat.{◌+◌, ◌-◌}
use native.Mathlib.Omega.{arith}
use Rattle.std.proofs.Common.{rules}
use Rattle.gather.proofs.Laws.{seen-cut}
use Rattle.channel.specs.Layout.{Form, record_head, block_size, numbers_at}
use Rattle.channel.specs.WellFormed.{diagonal_ok, block_ok}
use Rattle.channel.specs.Inner.Shapes.{when, blank}
use Rattle.channel.proofs.Judging.{there, lacking}
use Rattle.channel.proofs.Kept.{in_range_lem}
use Rattle.channel.proofs.Pass.{pass_bad, pass_good}
use Rattle.form_judge.specs.Inner.Judging.{sight_of}
use Rattle.form_judge.proofs.Blocks.{restores-rows}
use Rattle.form_judge.proofs.rows.judge_block.Goals as goal

pub returns-then-not-g-e : goal.returns-then-not-g-e
returns-then-not-g-e c =
    let b = c.args.b.now in
    let n = block_size b.form in
    let cut = sym (seen-cut b.words.now record_head n (record_head + n - record_head) (omega arith) (omega (arith, b.inside))) in
    let e = pass_bad b.form b.words.now b.inside refl (c.look-g.ensures.seen ∙ cut) (search rules) (sym c.up_to.ensures ∙ c.if-not-up_to.false) c.if-not-g-e.true in
    sym (ap (λ (t : Bool). when t (sight_of c.args.to b.form b.words.now 0)) (lacking (block_ok b.form b.words.now 0) (blank b.form b.words.now 0) e refl))

pub returns : goal.returns
returns c =
    let b = c.args.b.now in
    let l = b.words.now in
    let n = block_size b.form in
    let z = numbers_at b.form l 0 in
    let cut = sym (seen-cut l record_head n (record_head + n - record_head) (omega arith) (omega (arith, b.inside))) in
    let e = pass_good b.form l b.inside refl (c.look-g.ensures.seen ∙ cut) (search rules) (sym c.up_to.ensures ∙ c.if-not-up_to.false) c.if-not-g-e.false (ap (λ (F : Form). diagonal_ok F z) c.requires) in
    let t = there (block_ok b.form l 0) (blank b.form l 0) e refl in
    let fits = c.look-g.ensures.fits ∙ restores-rows b.form.side c.args.to.half c.args.to.plain z (in_range_lem b.form l 0 t.0) in
    (λ i. Some (record { blank = t.1 i; fits = fits i })) ∙ sym (ap (λ (k : Bool). when k (sight_of c.args.to b.form l 0)) t.0)
