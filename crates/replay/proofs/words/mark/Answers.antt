-- `words::mark` meets its contract.
use mathlib.Core.Path.{subst}
use mathlib.Core.List.{[], ◌∷◌}
use Prim.Native.Nat.{ℕ, ◌+◌, ◌%◌, ◌^◌, ◌<◌}
use native.Mathlib.Nat.{le_refl, zero-add}
use native.Mathlib.Omega.{arith}
use lib.ListN.{length, set}
use lib.IntN.{pos}
use mir.Syntax.{w64}
use mir.Val.{to_z}
use mir.Facts.{to_z_pos}
use Rattle.algebra.proofs.Blocks.{Writing, begin, again_word, long}
use Rattle.replay.proofs.words.mark.Goals as goal

pub loop-i-init : goal.loop-i-init
loop-i-init c = begin (λ k. le_refl 1)

pub loop-i-preserved : goal.loop-i-preserved
loop-i-preserved c =
    let l₀ = c.args.buf.now in
    let i = c.loop-i.i in
    let h : i % 997 + 1 < 2 ^ 63 = omega arith in
    subst (λ (j : ℕ). Writing 1 l₀ 0 (length l₀) (λ (k : ℕ). pos (k % 997 + 1) ∷ []) (set c.loop-i.buf j (to_z w64 (i % 997 + 1))) (i + 1)) (zero-add i)
    (again_word (λ k. pos (k % 997 + 1)) c.loop-i.invariant (omega (arith, long c.loop-i.invariant)) (to_z_pos w64 h))
