-- The words of a channel whose blocks have no √2 part: of each entry n0 and n2 alone.
use Rattle.std.specs.Prelude.{true, false, List, ℤ}
use Rattle.verdict.specs.Questions.{Verdict}
use Rattle.channel.specs.declared.forms.Parts.{Parts}
use Rattle.form_calls.specs.Calls.{write_verdict, read_verdict, write_result, read_result}

abbrev pub kept : Parts
kept = record { half = false; plain = true }

-- the writer: 10, 16, 23 for the first block along the chain that has a √2 part, 8
abbrev pub plain_write_verdict : List ℤ → List ℤ → Verdict
plain_write_verdict = write_verdict kept

abbrev pub plain_write_result : List ℤ → List ℤ → List ℤ
plain_write_result = write_result kept

-- the reader: 10, 8
abbrev pub plain_read_verdict : List ℤ → List ℤ → Verdict
plain_read_verdict = read_verdict kept

abbrev pub plain_read_result : List ℤ → List ℤ → List ℤ
plain_read_result = read_result kept
