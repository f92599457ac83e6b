-- `Sums::entry` meets its contract.
use mathlib.Core.Path.{refl, sym, subst}
use Prim.Native.Nat.{ℕ, ◌*◌}
use Rattle.std.specs.Prelude.{IsOk}
use Rattle.algebra.proofs.Tests.{all-at}
use Rattle.scalar.specs.Calls.{Answer}
use Rattle.effects.specs.Effects.{term, partials_fit}
use Rattle.effects.proofs.Summing.{answer-value}
use Rattle.effects.proofs.Sums.entry.Goals as goal

pub unwrap-requires : goal.unwrap-requires
unwrap-requires c =
    let b = c.args.self.block in
    let i = c.args.i in
    let fits = all-at (b.d * b.d) (λ (k : ℕ). partials_fit b.d (term b.words.now b.at b.d k)) c.args.self.fit i c.requires in
    subst (λ (a : Answer). IsOk a) (sym (answer-value (term b.words.now b.at b.d i) b.d c.sum_entry.ensures fits)) refl
