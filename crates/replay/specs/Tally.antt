-- What a replay counts: all cases, those that agree by where the record comes from, those that do not, the first of these, and the numbers compared.
use Rattle.std.specs.Prelude.{Bool, true, cond, not, ◌&&◌, ◌||◌, List, [], ◌++◌, ℕ, ltb, nat_lt, if◌then◌else◌, codes}
use Rattle.std.specs.Fmt.{decimal}
use Rattle.replay.specs.declared.record.Record.{Record}
use Rattle.replay.specs.declared.record.Source.{Source}
use Rattle.replay.specs.declared.tally.Tally.{Tally}
use Rattle.replay.specs.Counts.{added, counted}
use Rattle.replay.specs.Record.{is_rust}

-- the number of the first case that does not agree: the first one before, or this case
abbrev pub first_of : ℕ → ℕ → Bool → ℕ
first_of before case agrees = cond (agrees || ltb 0 before) before case

abbrev pub none : Tally
none = record { cases = 0; of_rust = 0; of_document = 0; disagree = 0; first = 0; compared = 0 }

abbrev pub with_case : Tally → Record → Source → Tally
with_case t r source = record {
  cases = counted t.cases true;
  of_rust = counted t.of_rust (r.agrees && is_rust source);
  of_document = counted t.of_document (r.agrees && not (is_rust source));
  disagree = counted t.disagree (not r.agrees);
  first = first_of t.first (counted t.cases true) r.agrees;
  compared = added t.compared r.compared;
}

-- ---- what is printed of them
abbrev pub counts_text : Tally → List ℕ
counts_text t =
    decimal t.of_rust ++ (codes " agree with the Rust, " ++ (decimal t.of_document ++ (codes " with the documents, "
    ++ (decimal t.disagree ++ (codes " disagree; " ++ (decimal t.compared ++ codes " numbers compared"))))))

-- a second line, for the first case that does not agree
abbrev pub first_text : Tally → List ℕ
first_text t = codes "\nthe first is case " ++ decimal t.first

abbrev pub tally_text : Tally → List ℕ
tally_text t = counts_text t ++ (if nat_lt 0 t.disagree then first_text t else [])
