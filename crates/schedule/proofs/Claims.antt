-- The verdict of judge_schedule says what is claimed of it.
use Rattle.std.specs.Prelude.{is_ok, Ok, Err}
use mathlib.Core.Path.{◌≡◌, refl, sym, ◌∙◌}
use mathlib.Core.Bool.{Bool, true, false, ◌&&◌}
use mathlib.Core.List.{List, ◌++◌}
use Prim.Native.Nat.{ℕ}
use native.Mathlib.Omega.{arith}
use lib.Dec.{eqb}
use lib.ListN.{length}
use borrow.Author.Tests.{eqb-true, eq-eqb}
use Rattle.algebra.specs.Lists.{every}
use Rattle.algebra.specs.Schedule.{Schedule}
use Rattle.algebra.proofs.Tests.{and_split}
use Rattle.verdict.specs.declared.Refusal.TheVariants.{NotScheduleAt}
use Rattle.verdict.specs.Questions.{Question, first_no}
use Rattle.verdict.proofs.Questions.{yes, all_yes, every_append}
use Rattle.gate.specs.Gate.{Gate, gates_of, share}
use Rattle.schedule.specs.Questions.{list_questions, idle, along, same_lengths, sound, table_questions, schedule_questions, schedule_verdict}
use Rattle.schedule.specs.Claims.{FirstFault, BothPass, Judges, Schedules}
use Rattle.schedule.proofs.Along.{First, along-yes, along-all, along-first, along-named}
use Rattle.schedule.proofs.Faults.{sound-free, unsound_fault, free-sound, schedule_free, free_schedule}
use Rattle.schedule.proofs.Asked.{lengths_differ, lengths_same, first_decides, second_decides, table_decides}

-- ---- the table
module _ (old new : List Gate) (table : List ℕ) where
  is_schedule : every yes (table_questions old new table) ≡ true → Schedule share idle old new table
  is_schedule e =
      let (p, q) = and_split (same_lengths old new table) (every yes (along (sound old new table) 0 (length table))) e in
      let (long, wide) = and_split (eqb (length new) (length old)) (eqb (length table) (length old)) p in
      free_schedule old new table (eqb-true (length new) (length old) long) (eqb-true (length table) (length old) wide)
      (λ i l. sound-free old new table i (along-all (sound old new table) 0 (length table) q i (omega arith) (omega arith)))

  schedule_passes : Schedule share idle old new table → first_no (table_questions old new table) ≡ Ok tt
  schedule_passes s =
      lengths_same old new table (λ i. eq-eqb (length new) (length old) s.long i && eq-eqb (length table) (length old) s.wide i)
      ∙ along-yes (sound old new table) 0 (length table) (λ k l m. free-sound old new table k (schedule_free old new table s k (omega arith)))

  module _ (e : same_lengths old new table ≡ true) (i : ℕ) where
    fault-named : first_no (table_questions old new table) ≡ Err (NotScheduleAt i) → FirstFault old new table i
    fault-named v =
        let f : First (sound old new table) 0 (length table) i = along-named (sound old new table) 0 (length table) i (sym (lengths_same old new table e) ∙ v) in
        record { inside = omega (arith, f.inside); fault = unsound_fault old new table i f.fails; before = λ j l. sound-free old new table j (f.before j (omega arith) l) }

    fault-found : FirstFault old new table i → first_no (table_questions old new table) ≡ Err (NotScheduleAt i)
    fault-found f =
        lengths_same old new table e
        ∙ along-first (sound old new table) 0 (length table) i (record { above = omega arith; inside = omega (arith, f.inside); fails = fails (sound old new table i) refl; before = λ j k l. free-sound old new table j (f.before j l) })
      where
        fails : (b : Bool) → sound old new table i ≡ b → b ≡ false
        fails true h = absurd (sound-free old new table i h f.fault)
        fails false h = refl

-- ---- the call
module _ (n m : ℕ) (old new table : List ℕ) where
  abbrev first : List Question
  first = list_questions n m old

  abbrev second : List Question
  second = list_questions n m new

  abbrev last : List Question
  last = table_questions (gates_of old) (gates_of new) table

  by-table : BothPass n m old new → first_no last ≡ schedule_verdict n m old new table
  by-table b = table_decides n m old new table refl b.first refl b.second refl

  record Answers : Type 0 where
    pub first_yes : every yes first ≡ true
    pub second_yes : every yes second ≡ true
    pub last_yes : every yes last ≡ true

  answers : is_ok (schedule_verdict n m old new table) ≡ true → Answers
  answers e =
      let (p, q) = and_split (every yes first) (every yes (second ++ last))
      (sym (every_append first (second ++ last)) ∙ sym (all_yes tt (schedule_questions n m old new table)) ∙ e) in
      let (r, s) = and_split (every yes second) (every yes last) (sym (every_append second last) ∙ q) in
      record { first_yes = p; second_yes = r; last_yes = s }

  judges : Judges n m old new table
  judges = record {
    passes = λ e. let a = answers e in record { first = all_yes tt first ∙ a.first_yes; second = all_yes tt second ∙ a.second_yes };
    schedule = λ e. is_schedule (gates_of old) (gates_of new) table (answers e).last_yes;
    acceptance = λ b s. sym (by-table b) ∙ schedule_passes (gates_of old) (gates_of new) table s;
    first_list = λ e. sym (first_decides n m old new table refl e);
    second_list = λ e f. sym (second_decides n m old new table refl e refl f);
    lengths = λ b e. sym (by-table b) ∙ lengths_differ (gates_of old) (gates_of new) table e;
    named = λ b e i v. fault-named (gates_of old) (gates_of new) table e i (by-table b ∙ v);
    found = λ b e i f. sym (by-table b) ∙ fault-found (gates_of old) (gates_of new) table e i f;
  }

pub schedules : Schedules
schedules = judges
