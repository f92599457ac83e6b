-- `terms_fit` meets its contract.
use mathlib.Core.Path.{sym, ◌∙◌}
use Prim.Native.Nat.{ℕ, ◌*◌}
use Rattle.algebra.proofs.Tests.{all_no}
use Rattle.effects.specs.Effects.{term, partials_fit}
use Rattle.effects.proofs.Summing.{answer_unfit}
use Rattle.effects.proofs.Block.terms_fit.Goals as goal

pub returns-then-is_err : goal.returns-then-is_err
returns-then-is_err c =
    let s = c.args in
    let unfit = answer_unfit (term s.self.words.now s.self.at s.self.d c.loop-i.i) s.self.d c.sum_entry.ensures (sym c.is_err.ensures.value ∙ c.if-is_err.true) in
    sym (all_no (s.self.d * s.self.d) c.loop-i.i (λ (k : ℕ). partials_fit s.self.d (term s.self.words.now s.self.at s.self.d k)) c.loop-i-test.true unfit)
