-- `copy_block` meets its contract.
use mathlib.Core.Path.{◌≡◌, sym, ap, ◌∙◌, subst}
use Prim.Native.Nat.{ℕ, ◌+◌, ◌*◌, ◌-◌, ◌≤◌, ◌<◌}
use native.Mathlib.Omega.{arith}
use lib.ListN.{length}
use Rattle.algebra.specs.Words.{blocks}
use Rattle.channel.specs.Layout.{Form, entry_size, entry_words, from, block_size, numbers_at}
use Rattle.recast.proofs.Rows.{row-fits, rows_begin, rows_again, rows_long}
use Rattle.recast.proofs.copy_block.Goals as goal

pub loop-r-init : goal.loop-r-init
loop-r-init c = let m = c.args.b.now in rows_begin c.keeping-form.result (numbers_at m.form m.words.now 0) c.args.res.now c.args.out

pub copy_row-requires : goal.copy_row-requires
copy_row-requires c =
    let m = c.args.b.now in
    let G = c.keeping-form.result in
    let same : G.side ≡ m.form.side = ap (λ (F : Form). F.side) c.keeping-form.ensures in
    let row : c.loop-r.r < G.side = omega arith in
    let room = subst (λ (F : Form). c.args.out + block_size F ≤ length c.args.res.now) (sym c.keeping-form.ensures) c.requires in
    (same, (omega arith, row-fits G m.form.side c.args.out c.loop-r.r _ _ _ _ same row c.row_start.ensures.is c.entry_size-size.ensures room (rows_long G (numbers_at m.form m.words.now 0) c.loop-r.invariant)))

pub loop-r-preserved : goal.loop-r-preserved
loop-r-preserved c =
    let m = c.args.b.now in
    let G = c.keeping-form.result in
    let z = numbers_at m.form m.words.now 0 in
    let r = c.loop-r.r in
    let same : m.form.side ≡ G.side = sym (ap (λ (F : Form). F.side) c.keeping-form.ensures) in
    let row : r < G.side = omega arith in
    rows_again G z c.loop-r.invariant row
    (c.copy_row.ensures
    ∙ (λ i. blocks (entry_size G.plain) c.loop-r.res (c.args.out + c.row_start.ensures.is i * c.entry_size-size.ensures i) (same i - from G r) (λ (j : ℕ). entry_words G.plain (z (r * same i + (from G r + j))))))
