-- `rows::look` meets its contract: what is seen of r rows.
use mathlib.Core.Path.{◌≡◌}
use Prim.Native.Nat.{◌*◌}
use Rattle.algebra.specs.Lists.{all_below}
use Rattle.gather.specs.Words.{seen_of}
use Rattle.channel.specs.Layout.{record_head, numbers_at}
use Rattle.form_judge.specs.Inner.Judging.{row_fits}
use Rattle.form_judge.proofs.rows.look.Given as goal

abbrev pub invariant-loop-r : goal.invariant-loop-r
invariant-loop-r l =
    let m = l.b in
    (l.seen ≡ seen_of m.words.now record_head (l.r * (m.form.side * 4))) × (l.fits ≡ all_below l.r (row_fits l.to.half l.to.plain m.form.side (numbers_at m.form m.words.now 0)))
