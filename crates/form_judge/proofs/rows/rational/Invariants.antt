-- `rows::rational` meets its contract: what is gathered so far is 0 exactly where c entries have no √2 part.
use mathlib.Core.Path.{◌≡◌}
use mathlib.Core.Bool.{not}
use Prim.Native.Nat.{ℕ, ◌+◌, ◌*◌}
use lib.Dec.{eqb}
use mir.Syntax.{w64}
use mir.Val.{of_z}
use Rattle.algebra.specs.Lists.{all_below}
use Rattle.channel.specs.Layout.{numbers_at}
use Rattle.channel.specs.Forms.{has_root}
use Rattle.form_judge.proofs.rows.rational.Given as goal

abbrev pub invariant-loop-c : goal.invariant-loop-c
invariant-loop-c l =
    let w = l.b.form.side in
    let z = numbers_at l.b.form l.b.words.now 0 in
    (l.w ≡ w) × (eqb (of_z w64 l.d) 0 ≡ all_below l.c (λ (c : ℕ). not (has_root (z (l.fn.r * w + c)))))
