-- What the verdict of judge_schedule says: accepted are the schedules of demand 3, and no others; refused, the first position at fault is named.
use Rattle.std.specs.Prelude.{◌≡◌, ◌≢◌, true, false, List, ℕ, ◌≤◌, ◌<◌, length, get_or, is_ok, Ok, Err}
use Rattle.algebra.specs.Schedule.{Schedule}
use Rattle.verdict.specs.declared.Refusal.TheVariants.{NotScheduleAt}
use Rattle.verdict.specs.Questions.{first_no}
use Rattle.gate.specs.Gate.{Gate, gates_of, share}
use Rattle.schedule.specs.Questions.{list_questions, idle, same_lengths, schedule_verdict}

module _ (old new : List Gate) (table : List ℕ) where
  -- new position i is at fault
  pub data Fault (i : ℕ) : Type 0 where
    past_end : length old ≤ get_or table i 0 → Fault i
    used : (j : ℕ) → j < i → get_or table j 0 ≡ get_or table i 0 → Fault i
    differs : get_or new i idle ≢ get_or old (get_or table i 0) idle → Fault i
    overtaken : (j : ℕ) → j < i → get_or table i 0 < get_or table j 0 → share (get_or new j idle) (get_or new i idle) ≡ true → Fault i

  -- and it is the first
  pub record FirstFault (i : ℕ) : Type 0 where
    pub inside : i < length table
    pub fault : Fault i
    pub before : (j : ℕ) → j < i → Fault j → ⊥

-- questions 2, 4 and 5 of both lists
pub record BothPass (n m : ℕ) (old new : List ℕ) : Type 0 where
  pub first : is_ok (first_no (list_questions n m old)) ≡ true
  pub second : is_ok (first_no (list_questions n m new)) ≡ true

module _ (n m : ℕ) (old new table : List ℕ) where
  pub record Judges : Type 0 where
    -- accepted exactly when both lists pass and the table is a schedule
    pub passes : is_ok (schedule_verdict n m old new table) ≡ true → BothPass n m old new
    pub schedule : is_ok (schedule_verdict n m old new table) ≡ true → Schedule share idle (gates_of old) (gates_of new) table
    pub acceptance : BothPass n m old new → Schedule share idle (gates_of old) (gates_of new) table → schedule_verdict n m old new table ≡ Ok tt
    -- the lists come first, the first one before the second
    pub first_list : is_ok (first_no (list_questions n m old)) ≡ false → schedule_verdict n m old new table ≡ first_no (list_questions n m old)
    pub second_list : is_ok (first_no (list_questions n m old)) ≡ true → is_ok (first_no (list_questions n m new)) ≡ false
        → schedule_verdict n m old new table ≡ first_no (list_questions n m new)
    -- then the lengths, and then the first new position at fault
    pub lengths : BothPass n m old new → same_lengths (gates_of old) (gates_of new) table ≡ false → schedule_verdict n m old new table ≡ Err (NotScheduleAt 0)
    pub named : BothPass n m old new → same_lengths (gates_of old) (gates_of new) table ≡ true → (i : ℕ) → schedule_verdict n m old new table ≡ Err (NotScheduleAt i) → FirstFault (gates_of old) (gates_of new) table i
    pub found : BothPass n m old new → same_lengths (gates_of old) (gates_of new) table ≡ true → (i : ℕ) → FirstFault (gates_of old) (gates_of new) table i → schedule_verdict n m old new table ≡ Err (NotScheduleAt i)

abbrev pub Schedules : Type 0
Schedules = (n m : ℕ) (old new table : List ℕ) → Judges n m old new table
