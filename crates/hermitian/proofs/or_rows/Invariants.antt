-- `or_rows` meets its contract: what is gathered so far is that of r rows.
use mathlib.Core.Path.{◌≡◌}
use Prim.Native.Nat.{ℕ, ◌+◌, ◌*◌, ◌-◌, ◌≤◌, ◌<◌}
use lib.ListN.{get_or}
use lib.IntN.{pos}
use mir.Syntax.{w64}
use mir.Val.{SFits, of_z}
use Rattle.hermitian.specs.Inner.Upper.{or_upper}
use Rattle.hermitian.proofs.or_rows.Given as goal

abbrev pub invariant-loop-r : goal.invariant-loop-r
invariant-loop-r l =
    (l.r ≤ l.w) × ((of_z w64 l.g ≡ or_upper l.s l.at l.w l.r) × ((q i : ℕ) → q < l.r → i < (l.w - q) * 4 → SFits w64 (get_or l.s (l.at + (q * l.w + q) * 4 + i) (pos 0))))
