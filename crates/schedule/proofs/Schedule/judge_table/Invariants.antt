-- The invariant: the positions before i are sound.
use mathlib.Core.Path.{◌≡◌}
use mathlib.Core.Bool.{true}
use Rattle.algebra.specs.Lists.{all_below}
use Rattle.gate.specs.Gate.{gates_of}
use Rattle.schedule.specs.Questions.{sound}
use Rattle.schedule.proofs.Schedule.judge_table.Given as goal

abbrev pub invariant-loop-i : goal.invariant-loop-i
invariant-loop-i l = all_below l.i (sound (gates_of l.self.old.now) (gates_of l.self.new.now) l.self.table.now) ≡ true
