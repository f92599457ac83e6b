-- A scheduler's work: a list that judge_schedule accepts as a schedule of another has its channel.
use Rattle.std.specs.Prelude.{◌≡◌, true, List, ℕ, length, ℤ, is_ok}
use Rattle.circuit.specs.declared.limits.Limits.{Limits}
use Rattle.schedule.specs.Questions.{schedule_verdict}
use Rattle.demands.specs.Demands.{Alike}

-- with every store and every limits, whatever buffers of the same lengths held: circuit_channel accepts both lists or neither, and accepted they have the same channel, compared either way round
abbrev pub Scheduled : Type 0
Scheduled = (n m : ℕ) (old new table : List ℕ) → is_ok (schedule_verdict n m old new table) ≡ true
    → (σ : List ℕ) (l : Limits) (r w s x : List ℤ) → length s ≡ length r → length x ≡ length w → Alike n m σ l old new r w s x
