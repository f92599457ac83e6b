-- `lookup::find_store` meets its contract.
use mathlib.Core.Path.{◌≡◌}
use Prim.Native.Nat.{◌-◌}
use lib.IntN.{nat_abs}
use Rattle.channel.specs.Layout.{word}
use Rattle.channel.specs.Inner.Shapes.{Onward}
use Rattle.channel.specs.Lookup.{find}
use Rattle.channel.proofs.lookup.find_store.Given as goal

abbrev pub invariant-loop-i : goal.invariant-loop-i
invariant-loop-i l = Onward l.s (l.count - l.i) l.at × (find l.s l.store l.count (nat_abs (word l.s 3)) ≡ find l.s l.store (l.count - l.i) l.at)
