-- `or_more` meets its contract: what is gathered so far is that of i words.
use mathlib.Core.Path.{◌≡◌, sym, ap, ◌∙◌, subst}
use mathlib.Core.List.{List}
use Prim.Native.Nat.{ℕ, ◌+◌, ◌<◌}
use native.Mathlib.Decide.{dec_lt}
use native.Mathlib.Numerals.{add-one}
use native.Mathlib.Omega.{arith}
use lib.Bits.{bit_or, or_lt}
use mir.Syntax.{w64}
use lib.IntN.{ℤ}
use mir.Val.{SFits, to_z, of_z}
use mir.Facts.{of_z-to_z, Fits-of_z}
use Rattle.channel.specs.Layout.{word}
use Rattle.share.specs.Share.{or_words}
use Rattle.share.proofs.or_more.Goals as goal

one_more : (l : List ℤ) (at i : ℕ) → ((j : ℕ) → j < i → SFits w64 (word l (at + j))) → SFits w64 (word l (at + i)) → (j : ℕ) → j < i + 1 → SFits w64 (word l (at + j))
one_more l at i f x j h = go (dec_lt j i)
  where
    go : Dec (j < i) → SFits w64 (word l (at + j))
    go (yes p) = f j p
    go (no p) = let e : i ≡ j = omega arith in subst (λ (m : ℕ). SFits w64 (word l (at + m))) e x

pub loop-i-preserved : goal.loop-i-preserved
loop-i-preserved c =
    let s = c.args in
    let x = word s.s.now (s.at + c.loop-i.i) in
    let p : SFits w64 x = record { sfits = c.h-1.given } in
    let bits = c.loop-i.auto.h in
    let v = c.loop-i.invariant in
    let fits = or_lt 64 c.loop-i.h-bits (of_z w64 x) bits.fits (Fits-of_z {w = w64} {z = x} p).fits in (
      of_z-to_z {w = w64} (record { fits = fits })
          ∙ ap (λ (k : ℕ). bit_or k (of_z w64 x)) (sym (of_z-to_z {w = w64} bits) ∙ v.0)
          ∙ ap (or_words (of_z w64 (to_z w64 (of_z w64 s.g))) s.s.now s.at) (sym (add-one c.loop-i.i)),
      one_more s.s.now s.at c.loop-i.i v.1 p,
    )
