-- The cases, by the numbers of their kinds.
use Rattle.std.specs.Prelude.{cond, List, ℕ, eqb}
use Rattle.replay.specs.declared.record.Record.{Record}
use Rattle.replay_cases.specs.declared.kinds.CircuitCall.TheVariants.{Unitary, Layered, Plain, Channel}
use Rattle.replay_cases.specs.declared.kinds.PauliCall.TheVariants.{Judged, Run}
use Rattle.replay_cases.specs.declared.kinds.RecordedCase.{RecordedCase}
use Rattle.replay_cases.specs.declared.kinds.RecordedCase.TheVariants.{Scalars, Phase, Circuit, Compared, Channels, Listed, Read, Written, Schedule, Program, Pairs, Edit}
use Rattle.replay_cases.specs.Words.{scalar_case, phase_case, words_case}
use Rattle.replay_cases.specs.Schedules.{schedule_case}
use Rattle.replay_cases.specs.Circuits.{circuit_case, compare_case, listing_case}
use Rattle.replay_cases.specs.Texts.{read_case, write_case}
use Rattle.replay_cases.specs.Lists.{list_case}
use Rattle.replay_cases.specs.Programs.{program_case}
use Rattle.replay_cases.specs.Edits.{edit_case}

-- 25 an edit, as each number that no other case has
abbrev pub kind_of : ℕ → RecordedCase
kind_of kind =
    cond (eqb kind 0) Scalars
    (cond (eqb kind 1) Phase
    (cond (eqb kind 2) (Circuit Unitary)
    (cond (eqb kind 3) (Circuit Channel)
    (cond (eqb kind 4) Compared
    (cond (eqb kind 5) Channels
    (cond (eqb kind 6) Listed
    (cond (eqb kind 7) (Circuit Layered)
    (cond (eqb kind 8) Read
    (cond (eqb kind 9) Written
    (cond (eqb kind 10) Schedule
    (cond (eqb kind 17) (Program Judged)
    (cond (eqb kind 18) (Program Run)
    (cond (eqb kind 23) (Circuit Plain)
    (cond (eqb kind 24) Pairs Edit))))))))))))))

abbrev pub record_of : RecordedCase → List ℕ → ℕ → Record
record_of Scalars t at = scalar_case t at
record_of Phase t at = phase_case t at
record_of (Circuit call) t at = circuit_case call t at
record_of Compared t at = compare_case t at
record_of Channels t at = words_case t at
record_of Listed t at = listing_case t at
record_of Read t at = read_case t at
record_of Written t at = write_case t at
record_of Schedule t at = schedule_case t at
record_of (Program call) t at = program_case call t at
record_of Pairs t at = list_case t at
record_of Edit t at = edit_case t at
