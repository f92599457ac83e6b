-- Cases of schedules: what a case gives to judge_schedule, and the verdict held against what the case records.
use Rattle.std.specs.Prelude.{List, ℕ}
use Rattle.schedule.specs.Questions.{schedule_verdict}
use Rattle.replay.specs.declared.record.Record.{Record}
use Rattle.replay.specs.Numerals.{word_no, low_word}
use Rattle.replay.specs.Record.{begun}
use Rattle.replay.specs.Answers.{with_verdict}
use Rattle.replay.specs.Words.{Filled, numbers_at}

-- a list that is read from `at` on, and where the next number begins
abbrev pub list_at : List ℕ → ℕ → Filled ℕ
list_at t at = numbers_at low_word t at 64

-- both counts, the old list, the new one and the table
abbrev pub schedule_case : List ℕ → ℕ → Record
schedule_case t at =
    let n = word_no t at 0 in
    let m = word_no t at 1 in
    let old = list_at t m.next in
    let new = list_at t old.next in
    let table = list_at t new.next in
    with_verdict t (begun table.next) (schedule_verdict (low_word n.size) (low_word m.size) old.words new.words table.words)
