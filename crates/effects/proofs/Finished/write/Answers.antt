-- `Finished::write` meets its contract.
use mathlib.Core.Path.{◌≡◌, refl, ap, ◌∙◌}
use mathlib.Core.Bool.{true}
use mathlib.Core.List.{List, [], ◌∷◌}
use Prim.Native.Nat.{ℕ, ◌+◌, ◌*◌, ◌^◌, ◌<◌}
use native.Mathlib.Omega.{arith}
use lib.ListN.{set}
use lib.IntN.{ℤ, pos}
use lib.Seq.{sets}
use mir.Syntax.{w64}
use mir.Facts.{to_z_pos}
use Rattle.algebra.proofs.Blocks.{append_block}
use Rattle.channel.specs.Shared.{shared_exponent, scaled}
use Rattle.channel.specs.Layout.{effects, block_words}
use Rattle.effects.specs.Effects.{effect_at, terms_fit}
use Rattle.effects.specs.Inner.Strides.{strided_at}
use Rattle.effects.proofs.Entries.{exponent_small, numbers-block}
use Rattle.effects.proofs.Strides.{strided-words}
use Rattle.effects.proofs.Finished.write.Goals as goal

-- the exponent is a word
small : (l : List ℤ) (at d : ℕ) {e : ℕ} → terms_fit l at d ≡ true → e ≡ shared_exponent (d * d) (effect_at l at d) → e < 2 ^ 63
small l at d t q = omega (arith, exponent_small l at d t, q)

pub returns : goal.returns
returns c =
    let s = c.args in
    let b = s.self.sums.block in
    let e = c.exponent-e.result in
    let numerators = λ (i : ℕ). scaled e (strided_at s.self.strides.rows s.self.strides.cols b.words.now b.at b.d i) in
    append_block s.res.now (pos e ∷ []) (block_words (effects b.d) numerators) s.out 1 refl
    (ap (λ (z : ℤ). set s.res.now s.out z) (to_z_pos w64 (small b.words.now b.at b.d s.self.sums.fit c.exponent-e.ensures)))
    (c.write_entries.ensures ∙ numbers-block b.d numerators _ (s.out + 1))
    ∙ ap (sets s.res.now s.out) (strided-words s.self.fits c.exponent-e.ensures)
