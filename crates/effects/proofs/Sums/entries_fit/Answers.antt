-- `Sums::entries_fit` meets its contract.
use mathlib.Core.Path.{◌≡◌, sym, ap, ◌∙◌, subst}
use Prim.Native.Nat.{ℕ, ◌*◌, ◌≤◌}
use Rattle.algebra.proofs.Tests.{all-step, all_no}
use Rattle.exact.specs.Exact.{within, max_numerator, max_exponent}
use Rattle.scalar.specs.declared.Scalar.{Scalar}
use Rattle.scalar.specs.Calls.{value}
use Rattle.channel.specs.Shared.{scaled}
use Rattle.channel.proofs.Shared.{exp_le}
use Rattle.effects.specs.Effects.{effect_at}
use Rattle.effects.proofs.Entries.{exponent_small}
use Rattle.effects.proofs.Sums.entries_fit.Goals as goal
use Rattle.effects.proofs.Sums.entries_fit.Goals.{After-fits_over}

pub fits_over-requires : goal.fits_over-requires
fits_over-requires c =
    let b = c.args.self.block in
    let effect = effect_at b.words.now b.at b.d in
    let below = subst (λ (n : ℕ). (effect c.loop-i.i).exp ≤ n) (sym c.requires) (exp_le (b.d * b.d) effect c.loop-i.i c.loop-i-test.true) in
    (subst (λ (v : Scalar). v.e ≤ c.args.e) (sym c.entry-x.ensures) below, subst (λ (n : ℕ). n ≤ max_exponent) (sym c.requires) (exponent_small b.words.now b.at b.d c.args.self.fit))

-- entry i is tested
tested : (c : After-fits_over) → let b = c.args.self.block in c.fits_over.result ≡ within max_numerator (scaled c.args.e (effect_at b.words.now b.at b.d c.loop-i.i))
tested c = c.fits_over.ensures ∙ ap (λ (v : Scalar). within max_numerator (scaled c.args.e (value v))) c.entry-x.ensures

pub returns-then-not-fits_over : goal.returns-then-not-fits_over
returns-then-not-fits_over c =
    let b = c.args.self.block in
    let e = c.args.e in
    sym (all_no (b.d * b.d) c.loop-i.i (λ (i : ℕ). within max_numerator (scaled e (effect_at b.words.now b.at b.d i))) c.loop-i-test.true (sym (tested c.before) ∙ c.if-not-fits_over.true))

pub loop-i-preserved : goal.loop-i-preserved
loop-i-preserved c =
    let b = c.args.self.block in
    let e = c.args.e in
    all-step c.loop-i.i (λ (i : ℕ). within max_numerator (scaled e (effect_at b.words.now b.at b.d i))) c.loop-i.invariant (sym (tested c.before) ∙ c.if-not-fits_over.false)
