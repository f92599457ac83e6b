-- `Sums::exponent` meets its contract.
use mathlib.Core.Path.{◌≡◌}
use Rattle.channel.specs.Shared.{shared_exponent}
use Rattle.effects.specs.Effects.{effect_at}
use Rattle.effects.proofs.Sums.exponent.Given as goal

abbrev pub invariant-loop-i : goal.invariant-loop-i
invariant-loop-i l = l.e ≡ shared_exponent l.i (effect_at l.self.block.words.now l.self.block.at l.self.block.d)
