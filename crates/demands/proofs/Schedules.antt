-- What judge_schedule accepts is a schedule of demand 3.
use Rattle.std.specs.Prelude.{is_ok}
use mathlib.Core.Path.{◌≡◌}
use mathlib.Core.Bool.{true}
use mathlib.Core.List.{List}
use Prim.Native.Nat.{ℕ}
use Rattle.schedule.specs.Questions.{schedule_verdict}
use Rattle.schedule.proofs.Asked.{list_length}
use Rattle.schedule.proofs.Claims.{schedules}
use Rattle.demands.specs.Demands.{ScheduleOf, reordered}
use Rattle.demands.specs.Schedules.{Scheduled}
use Rattle.demands.proofs.Demands.{demand3}

is_schedule : (n m : ℕ) (old new table : List ℕ) → is_ok (schedule_verdict n m old new table) ≡ true → ScheduleOf old new table
is_schedule n m old new table e =
    let j = schedules n m old new table in
    let p = j.passes e in
    reordered (list_length n m old p.first) (list_length n m new p.second) (j.schedule e)

pub scheduled : Scheduled
scheduled n m old new table e σ l = demand3 n m σ l old new table (is_schedule n m old new table e)
