-- The invariant: no gate before j stands in the way.
use mathlib.Core.Path.{◌≡◌}
use mathlib.Core.Bool.{true, not}
use Prim.Native.Nat.{ℕ}
use Rattle.algebra.specs.Lists.{all_below}
use Rattle.gate.specs.Gate.{gates_of}
use Rattle.gate.specs.Inner.Words.{gate_of}
use Rattle.schedule.specs.Questions.{bars}
use Rattle.schedule.proofs.Schedule.is_free.Given as goal

abbrev pub invariant-loop-j : goal.invariant-loop-j
invariant-loop-j l = all_below l.j (λ (x : ℕ). not (bars (gates_of l.self.new.now) l.self.table.now (gate_of l.g) l.k x)) ≡ true
