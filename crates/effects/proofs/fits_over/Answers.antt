-- `fits_over` meets its contract: the bound is shifted, not the numerators.
use mathlib.Core.Path.{◌≡◌, ap, ◌∙◌}
use Prim.Native.Nat.{ℕ, ◌-◌, ◌/◌, ◌^◌}
use native.Mathlib.Nat.{div-le_self, lt_of_le_of_lt}
use lib.Dec.{lit<}
use lib.IntN.{ℤ, pos, nat_abs}
use mir.Syntax.{w64}
use mir.Val.{to_z}
use mir.Facts.{to_z_pos}
use Rattle.exact.specs.Exact.{within, max_numerator, number_of}
use Rattle.exact.proofs.Align.{scaled_is}
use Rattle.effects.proofs.Entries.{fits-scaled}
use Rattle.effects.proofs.fits_over.Goals as goal

-- `MAX_NUMERATOR >> d`
shifted : (d : ℕ) → to_z w64 (max_numerator / 2 ^ d) ≡ pos (max_numerator / 2 ^ d)
shifted d = to_z_pos w64 (lt_of_le_of_lt (div-le_self max_numerator (2 ^ d)) (lit< tt))

pub returns : goal.returns
returns c =
    let s = c.args in
    let z = number_of s.x.n in
    let k = s.e - s.x.e in
    c.are_within.ensures ∙ ap (λ (m : ℤ). within (nat_abs m) z) (shifted k) ∙ fits-scaled z k ∙ ap (within max_numerator) (scaled_is z k)
