-- The invariant: the gates passed so far share with none before them, so the rest decides.
use mathlib.Core.Path.{◌≡◌}
use Prim.Native.Nat.{◌-◌}
use Rattle.circuit.specs.Inner.Firing.{first_clash, shares_from}
use Rattle.circuit.proofs.layers.judge_layer.Given as goal

abbrev pub invariant-loop-i : goal.invariant-loop-i
invariant-loop-i l = first_clash l.start (l.end - l.start) (shares_from l.words l.start) ≡ first_clash l.i (l.end - l.i) (shares_from l.words l.start)
