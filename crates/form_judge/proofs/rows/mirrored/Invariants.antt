-- `rows::mirrored` meets its contract: what is gathered so far is 0 exactly where j entries are the conjugates of their mirrors.
use mathlib.Core.Path.{◌≡◌}
use Prim.Native.Nat.{ℕ, ◌+◌, ◌*◌, ◌-◌}
use Rattle.algebra.specs.Lists.{all_below}
use Rattle.exact.specs.Exact.{number, is_zero}
use Rattle.channel.specs.Layout.{numbers_at}
use Rattle.form_judge.specs.Inner.Judging.{mirrors}
use Rattle.form_judge.proofs.rows.mirrored.Given as goal

abbrev pub invariant-loop-j : goal.invariant-loop-j
invariant-loop-j l =
    let w = l.b.form.side in
    let z = numbers_at l.b.form l.b.words.now 0 in
    (l.j-end ≡ w - l.fn.r) × (is_zero (number l.d0 l.d1 l.d2 l.d3) ≡ all_below l.j (λ (j : ℕ). mirrors (z (l.fn.r * w + (l.fn.r + j))) (z ((l.fn.r + j) * w + l.fn.r))))
