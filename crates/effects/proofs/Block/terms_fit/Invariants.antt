-- `terms_fit` meets its contract.
use mathlib.Core.Path.{◌≡◌}
use mathlib.Core.Bool.{true}
use Prim.Native.Nat.{ℕ}
use Rattle.algebra.specs.Lists.{all_below}
use Rattle.effects.specs.Effects.{term, partials_fit}
use Rattle.effects.proofs.Block.terms_fit.Given as goal

abbrev pub invariant-loop-i : goal.invariant-loop-i
invariant-loop-i l = all_below l.i (λ (k : ℕ). partials_fit l.self.d (term l.self.words.now l.self.at l.self.d k)) ≡ true
