-- A replay under way: cases one after the other, counted by kind.
use Rattle.std.specs.Prelude.{cond, List, [], ◌++◌, ℕ, zero, suc, eqb, ◌==◌, if◌then◌else◌, codes}
use Rattle.std.specs.Fmt.{decimal}
use Rattle.replay.specs.declared.record.Record.{Record}
use Rattle.replay.specs.declared.tally.Tally.{Tally}
use Rattle.replay.specs.declared.progress.Heading.{Heading}
use Rattle.replay.specs.declared.progress.Progress.{Progress}
use Rattle.replay.specs.Numerals.{word_at, word_no}
use Rattle.replay.specs.Record.{source_of}
use Rattle.replay.specs.Tally.{none, with_case, tally_text}

-- how a case begins: its kind, then where its record comes from
abbrev pub heading_at : List ℕ → ℕ → Heading
heading_at t at = record { kind = (word_no t at 0).size; source = source_of (word_no t at 1).size; next = (word_no t at 1).next }

-- the kind of the last case, what was counted of it, and where the next case begins
abbrev pub progress_of : ℕ → Tally → ℕ → Progress
progress_of kind tally next = record { kind = kind; tally = tally; next = next }

-- the first case of another kind begins a new count
abbrev pub tally_for : Progress → ℕ → Tally
tally_for p kind = cond (eqb kind p.kind) p.tally none

abbrev pub with_turn : Progress → Heading → Record → Progress
with_turn p h r = progress_of h.kind (with_case (tally_for p h.kind) r h.source) r.next

-- what is printed of the last kind
abbrev pub lines_of : Progress → List ℕ
lines_of p = if p.tally.cases == 0 then [] else codes "kind " ++ (decimal p.kind ++ (codes ": " ++ (tally_text p.tally ++ codes "\n")))

-- ---- the whole text, whose cases are held against their records as `case` says of their kind
module _ (case : ℕ → List ℕ → ℕ → Record) (t : List ℕ) where
  -- one more case
  abbrev pub with_next : Progress → Progress
  with_next p = let h = heading_at t p.next in with_turn p h (case h.kind t h.next)

  unfoldable pub with_nexts : ℕ → Progress → Progress
  with_nexts zero p = p
  with_nexts (suc n) p = with_nexts n (with_next p)

  -- how many cases there are, then the cases
  abbrev pub replay_of : Progress
  replay_of = with_nexts (word_at t 0).size (progress_of 0 none (word_at t 0).next)
