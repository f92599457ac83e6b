-- `Sums::entries_fit` meets its contract.
use mathlib.Core.Path.{◌≡◌}
use mathlib.Core.Bool.{true}
use Prim.Native.Nat.{ℕ}
use Rattle.algebra.specs.Lists.{all_below}
use Rattle.exact.specs.Exact.{within, max_numerator}
use Rattle.channel.specs.Shared.{scaled}
use Rattle.effects.specs.Effects.{effect_at}
use Rattle.effects.proofs.Sums.entries_fit.Given as goal

abbrev pub invariant-loop-i : goal.invariant-loop-i
invariant-loop-i l =
    let b = l.self.block in
    all_below l.i (λ (k : ℕ). within max_numerator (scaled l.e (effect_at b.words.now b.at b.d k))) ≡ true
