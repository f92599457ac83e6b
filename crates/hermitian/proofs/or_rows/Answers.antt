-- `or_rows` meets its contract.
use mathlib.Core.Path.{◌≡◌, sym, ap, ◌∙◌, subst}
use Prim.Native.Nat.{ℕ, ◌+◌, ◌*◌, ◌-◌}
use native.Mathlib.Decide.{dec_lt}
use native.Mathlib.Numerals.{add-one}
use native.Mathlib.Omega.{arith}
use lib.ListN.{get_or}
use lib.IntN.{pos}
use mir.Syntax.{w64}
use mir.Val.{SFits}
use mir.Facts.{of_z-to_z, Fits-of_z}
use Rattle.share.specs.Share.{or_words}
use Rattle.hermitian.specs.Inner.Upper.{or_upper}
use Rattle.hermitian.proofs.or_rows.Goals as goal

pub or_row-g-requires : goal.or_row-g-requires
or_row-g-requires c = let r = c.loop-r.r in record { inside = c.loop-r-test.true; room = c.requires.block.room; none = c.requires.none r c.loop-r-test.true }

pub loop-r-preserved : goal.loop-r-preserved
loop-r-preserved c =
    let a = c.args in
    let r = c.loop-r.r in
    let v = c.loop-r.invariant.1 in
    let g = c.or_row-g in (
      omega arith,
      (
        of_z-to_z {w = w64} (Fits-of_z {w = w64} {z = g.result} (record { sfits = g.type_inv })) ∙ g.ensures.bits
            ∙ ap (λ (k : ℕ). or_words k a.s.now (a.at + (r * a.w + r) * 4) ((a.w - r) * 4)) v.0 ∙ ap (or_upper a.s.now a.at a.w) (sym (add-one r)),
        λ q i h p. elim (dec_lt q r) [
          | yes l ↦ v.1 q i l p
          | no l ↦ let e : r ≡ q = omega arith in subst (λ (k : ℕ). SFits w64 (get_or a.s.now (a.at + (k * a.w + k) * 4 + i) (pos 0))) e (g.ensures.fit i (let f : (a.w - q) * 4 ≡ (a.w - r) * 4 = ap (λ (k : ℕ). (a.w - k) * 4) (sym e) in omega arith))
        ],
      ),
    )
