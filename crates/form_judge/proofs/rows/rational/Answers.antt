-- `rows::rational` meets its contract.
use mathlib.Core.Path.{sym, ap, ◌∙◌}
use mathlib.Core.Bool.{not}
use Prim.Native.Nat.{ℕ, ◌+◌, ◌*◌}
use lib.Dec.{eqb}
use mir.Syntax.{w64}
use mir.Facts.{Fits-of_z, of_z-to_z}
use Rattle.exact.specs.Exact.{number_of}
use Rattle.channel.specs.Layout.{numbers_at}
use Rattle.channel.specs.Forms.{has_root}
use Rattle.form_judge.proofs.Gathered.{one_more}
use Rattle.form_judge.proofs.rows.rational.Goals as goal

pub loop-c-preserved : goal.loop-c-preserved
loop-c-preserved c =
    let m = c.args.b.now in
    let z = numbers_at m.form m.words.now 0 in
    let r = c.args.r in
    let j = c.loop-c.c in
    let bits = c.loop-c.auto.d in (
      c.side-w.ensures.is,
      one_more bits.fits (Fits-of_z {w = w64} {z = c.root-d.result} (record { sfits = c.root-d.type_inv })).fits j (λ (k : ℕ). not (has_root (z (r * m.form.side + k))))
          (ap (λ (k : ℕ). eqb k 0) (sym (of_z-to_z {w = w64} bits)) ∙ c.loop-c.invariant.1)
          (c.root-d.ensures ∙ ap (λ x. not (has_root (number_of x))) c.entry.ensures ∙ ap (λ (w : ℕ). not (has_root (z (r * w + j)))) c.side-w.ensures.is),
    )
