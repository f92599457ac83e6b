-- A packed channel: of each block, which is Hermitian, the entries (r, c) with r ≤ c alone.
use Rattle.std.specs.Prelude.{true, false, List, ℤ}
use Rattle.verdict.specs.Questions.{Verdict}
use Rattle.channel.specs.declared.forms.Parts.{Parts}
use Rattle.form_calls.specs.Calls.{write_verdict, read_verdict, write_result, read_result}

abbrev pub kept : Parts
kept = record { half = true; plain = false }

-- the writer: 10, 16, 22 for the first block along the chain that is not Hermitian, 8
abbrev pub pack_verdict : List ℤ → List ℤ → Verdict
pack_verdict = write_verdict kept

abbrev pub pack_result : List ℤ → List ℤ → List ℤ
pack_result = write_result kept

-- the reader: 10, 8
abbrev pub unpack_verdict : List ℤ → List ℤ → Verdict
unpack_verdict = read_verdict kept

abbrev pub unpack_result : List ℤ → List ℤ → List ℤ
unpack_result = read_result kept
