-- `can_scale` meets its contract: the bound is shifted, not the numerators.
use mathlib.Core.Path.{◌≡◌, ap, ◌∙◌}
use Prim.Native.Nat.{ℕ, ◌/◌, ◌^◌}
use native.Mathlib.Nat.{div-le_self, lt_of_le_of_lt}
use lib.Dec.{lit<}
use lib.IntN.{ℤ, pos, nat_abs}
use mir.Syntax.{w64}
use mir.Val.{to_z}
use mir.Facts.{to_z_pos}
use Rattle.exact.specs.Exact.{within, number_of}
use Rattle.exact.specs.Inner.Sizes.{room_numerator}
use Rattle.exact.proofs.Overflow.{can_scale}
use Rattle.exact.proofs.ranges.can_scale.Goals as goal

-- `ROOM_NUMERATOR >> d`
shifted : (d : ℕ) → to_z w64 (room_numerator / 2 ^ d) ≡ pos (room_numerator / 2 ^ d)
shifted d = to_z_pos w64 (lt_of_le_of_lt (div-le_self room_numerator (2 ^ d)) (lit< tt))

pub returns : goal.returns
returns c =
    c.are_within.ensures ∙ ap (λ (z : ℤ). within (nat_abs z) (number_of c.args.x)) (shifted c.args.d) ∙ can_scale (number_of c.args.x) c.args.d
