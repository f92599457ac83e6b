-- `compare::Sides::search` meets its contract.
use Rattle.std.specs.Option.{option_copied}
use mathlib.Core.Path.{◌≡◌}
use Prim.Native.Nat.{◌+◌, ◌*◌, ◌-◌, ◌<◌}
use Rattle.compare.specs.Compare.{scan}
use Rattle.compare.specs.Inner.Sides.{blocks_of}
use Rattle.compare.proofs.Sides.search.Given as goal

abbrev pub invariant-loop-col : goal.invariant-loop-col
invariant-loop-col l =
    let b = blocks_of l.self.store (option_copied l.self.left) (option_copied l.self.right) in
    (l.row < l.w) × (scan b l.w (l.w * l.w) 0 ≡ scan b l.w (l.w * l.w - (l.row * l.w + l.col)) (l.row * l.w + l.col))

abbrev pub invariant-loop-row : goal.invariant-loop-row
invariant-loop-row l =
    let b = blocks_of l.self.store (option_copied l.self.left) (option_copied l.self.right) in
    scan b l.w (l.w * l.w) 0 ≡ scan b l.w (l.w * l.w - l.row * l.w) (l.row * l.w)
