-- The invariant: no gate before j stands in the way.
use mathlib.Core.Path.{◌≡◌, sym, ap, ◌∙◌}
use mathlib.Core.Bool.{not}
use Prim.Native.Nat.{ℕ}
use native.Mathlib.Omega.{arith}
use Rattle.algebra.specs.Lists.{all_below}
use Rattle.algebra.proofs.Tests.{all-step, all_no}
use Rattle.gate.specs.Gate.{gates_of}
use Rattle.gate.specs.Inner.Words.{gate_of}
use Rattle.schedule.specs.Questions.{bars}
use Rattle.schedule.proofs.Schedule.is_free.Goals as goal

pub returns-then-is_barred : goal.returns-then-is_barred
returns-then-is_barred c =
    let a = c.args in
    sym (all_no a.i c.loop-j.j (λ (x : ℕ). not (bars (gates_of a.self.new.now) a.self.table.now (gate_of a.g) a.k x)) c.loop-j-test.true
    (ap not (sym c.is_barred.ensures ∙ c.if-is_barred.true)))
