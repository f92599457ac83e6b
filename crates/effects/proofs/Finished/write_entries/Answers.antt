-- `Finished::write_entries` meets its contract.
use mathlib.Core.Path.{sym, ap, ◌∙◌, subst}
use Prim.Native.Nat.{ℕ, ◌+◌, ◌*◌, ◌≤◌, ◌<◌}
use native.Mathlib.Nat.{le_refl}
use native.Mathlib.Omega.{arith}
use Rattle.algebra.proofs.Blocks.{begin, again, long}
use Rattle.exact.specs.Exact.{within, max_numerator, max_exponent, list_of}
use Rattle.scalar.specs.declared.Scalar.{Scalar}
use Rattle.scalar.specs.Calls.{value}
use Rattle.channel.specs.Shared.{scaled}
use Rattle.channel.proofs.Shared.{exp_le}
use Rattle.effects.specs.Effects.{effect_at}
use Rattle.effects.proofs.Entries.{exponent_small, effect-fits}
use Rattle.effects.proofs.Strides.{effect_fit, place_inside}
use Rattle.effects.proofs.Finished.write_entries.Goals as goal

-- number i of v has room where v numbers have
room : (i out n : ℕ) (v : ℕ) → i < v → out + v * 4 ≤ n → out + i * 4 + 4 ≤ n
room i out n v p q = omega arith

pub loop-i-init : goal.loop-i-init
loop-i-init c = begin (λ k. le_refl 4)

pub entry-x-requires : goal.entry-x-requires
entry-x-requires c =
    let b = c.args.self.sums.block in
    subst (λ (k : ℕ). k < b.d * b.d) (sym c.place-k.ensures) (place_inside c.args.self.fits c.loop-i.i c.loop-i-test.true)

pub write_scaled-requires : goal.write_scaled-requires
write_scaled-requires c =
    let s = c.args in
    let b = s.self.sums.block in
    let k = c.place-k.result in
    let shared = c.requires.0 in
    let below : k < b.d * b.d = subst (λ (k : ℕ). k < b.d * b.d) (sym c.place-k.ensures) (place_inside s.self.fits c.loop-i.i c.loop-i-test.true) in
    let exponent = subst (λ (n : ℕ). (effect_at b.words.now b.at b.d k).exp ≤ n) (sym shared) (exp_le (b.d * b.d) (effect_at b.words.now b.at b.d) k below) in (
      omega (arith, room c.loop-i.i s.out _ (b.d * b.d) c.loop-i-test.true c.requires.1, long c.loop-i.invariant),
      (
        subst (λ (v : Scalar). v.e ≤ s.e) (sym c.entry-x.ensures) exponent,
        (
          subst (λ (n : ℕ). n ≤ max_exponent) (sym shared) (exponent_small b.words.now b.at b.d s.self.sums.fit),
          ap (λ (v : Scalar). within max_numerator (scaled s.e (value v))) c.entry-x.ensures
              ∙ ap (λ (n : ℕ). within max_numerator (scaled n (effect_at b.words.now b.at b.d k))) shared
              ∙ effect-fits b.words.now b.at b.d (effect_fit s.self.fits) k below,
        ),
      ),
    )

pub loop-i-preserved : goal.loop-i-preserved
loop-i-preserved c =
    let b = c.args.self.sums.block in
    again c.loop-i.invariant c.loop-i-test.true c.write_scaled.ensures
    (ap (λ (v : Scalar). list_of (scaled c.args.e (value v))) c.entry-x.ensures ∙ ap (λ (j : ℕ). list_of (scaled c.args.e (effect_at b.words.now b.at b.d j))) c.place-k.ensures)
