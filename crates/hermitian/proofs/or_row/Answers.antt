-- `or_row` meets its contract.
use mathlib.Core.Path.{sym, ap, ◌∙◌, subst}
use Prim.Native.Nat.{◌+◌, ◌*◌, ◌-◌}
use native.Mathlib.Omega.{arith}
use lib.IntN.{ℤ}
use mir.Syntax.{w64}
use mir.Val.{SFits}
use mir.Facts.{of_z-to_z, Fits-of_z}
use Rattle.share.specs.Share.{number_in}
use Rattle.overlaps.proofs.Rows.{later-place, diagonal-room}
use Rattle.hermitian.proofs.Bits.{word-none, or_none}
use Rattle.hermitian.proofs.or_row.Goals as goal

pub returns-then-is_zero_row : goal.returns-then-is_zero_row
returns-then-is_zero_row c =
    let a = c.args in
    let at = a.at + (a.r * a.w + a.r) * 4 in
    let n = c.requires.none (sym c.is_zero_row.ensures ∙ c.if-is_zero_row.true) in
    let words = word-none a.s.now at (a.w - a.r) (λ k h. ap (number_in a.s.now) (later-place a.at a.w a.r k) ∙ n.row (a.r + k) (omega arith)) in
    record {
      bits = of_z-to_z {w = w64} (Fits-of_z {w = w64} {z = a.g} c.ranges.g) ∙ sym (or_none _ a.s.now at ((a.w - a.r) * 4) words);
      fit = λ i h. subst (λ (x : ℤ). SFits w64 x) (sym (words i h)) (record { sfits = omega arith });
    }

pub or_more-requires : goal.or_more-requires
or_more-requires c = let a = c.args in omega (arith, c.requires.room, diagonal-room a.at a.w a.r c.requires.inside)
