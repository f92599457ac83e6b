-- `same_words` meets its contract: what is gathered so far is 0 exactly if the first i words are the same.
use mathlib.Core.Path.{sym, ap, ◌∙◌}
use Prim.Native.Nat.{ℕ}
use native.Mathlib.Nat.{zero-add}
use lib.Dec.{eqb}
use lib.Bits.{or_lt, xor_lt, bit_xor}
use mir.Syntax.{w64}
use mir.Val.{SFits, of_z}
use mir.Facts.{Fits-of_z, of_z-to_z}
use lib.ListN.{get_or}
use lib.IntN.{pos}
use Rattle.algebra.specs.Words.{eqℤ}
use Rattle.algebra.proofs.Signed.{or_zero}
use Rattle.gather.specs.Words.{same_at}
use Rattle.gather.proofs.Laws.{all_more, xor_words}
use Rattle.gather.proofs.same_words.Goals as goal

pub loop-i-preserved : goal.loop-i-preserved
loop-i-preserved c =
    let s = c.args in
    let x = get_or s.s.now c.loop-i.i (pos 0) in
    let y = get_or s.t.now c.loop-i.i (pos 0) in
    let p : SFits w64 x = record { sfits = c.d-1.given } in
    let q : SFits w64 y = record { sfits = c.d-in-loop-i-1.given } in
    let place = sym (zero-add c.loop-i.i) in
    let bits = c.loop-i.auto.d in
    let g = or_lt 64 c.loop-i.d-bits _ bits.fits (xor_lt 64 (of_z w64 x) (of_z w64 y) (Fits-of_z p).fits (Fits-of_z q).fits) in
    ap (λ (m : ℕ). eqb m 0) (of_z-to_z {w = w64} (record { fits = g }))
    ∙ or_zero c.loop-i.d-bits (bit_xor (of_z w64 x) (of_z w64 y))
    ∙ all_more c.loop-i.i (same_at s.s.now 0 s.t.now 0) (ap (λ (m : ℕ). eqb m 0) (sym (of_z-to_z {w = w64} bits)) ∙ c.loop-i.invariant) (xor_words x y p q ∙ (λ j. eqℤ (get_or s.s.now (place j) (pos 0)) (get_or s.t.now (place j) (pos 0))))
