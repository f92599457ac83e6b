-- `copy_row` meets its contract.
use mathlib.Core.Path.{ap, ◌∙◌}
use Prim.Native.Nat.{ℕ, ◌+◌, ◌*◌, ◌-◌, ◌<◌}
use native.Mathlib.Nat.{le_of_eq}
use native.Mathlib.Omega.{arith}
use lib.Seq.{sets}
use Rattle.algebra.proofs.Blocks.{begin, again}
use Rattle.exact.specs.Exact.{number_of}
use Rattle.channel.specs.Layout.{from, entry_words, numbers_at}
use Rattle.channel.proofs.Kept.{entry_long}
use Rattle.recast.proofs.copy_row.Goals as goal

pub loop-j-init : goal.loop-j-init
loop-j-init c = begin (λ k. le_of_eq (entry_long c.args.to.plain _))

pub loop-j-preserved : goal.loop-j-preserved
loop-j-preserved c =
    let m = c.args.b.now in
    let h : c.loop-j.j < m.form.side - from c.args.to c.args.r = omega (arith, c.requires.0) in
    again c.loop-j.invariant h
    (c.write_number.ensures ∙ (λ i. sets c.loop-j.res (c.args.out + c.loop-j.j * c.entry_size-size.ensures i) (entry_words (c.is_plain-plain.ensures i) (number_of c.read_number-x.result))))
    (ap (λ y. entry_words c.args.to.plain (number_of y)) c.read_number-x.ensures ∙ ap (λ (k : ℕ). entry_words c.args.to.plain (numbers_at m.form m.words.now 0 (c.args.r * m.form.side + (k + c.loop-j.j)))) c.first_column-skipped.ensures)
