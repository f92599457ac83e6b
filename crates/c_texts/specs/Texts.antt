-- What the calls on texts reply and write.
use Rattle.std.specs.Prelude.{List, [], ◌∷◌, ℕ, length, Result, Ok, Err}
use Rattle.verdict.specs.Verdict.{refusal_number}
use Rattle.qasm.specs.declared.reader.Reading.{Reading}
use Rattle.qasm.specs.declared.reader.Fault.{Fault}
use Rattle.qasm.specs.Reading.{read_of, reply}

-- what is read of a text t, where there is room for the gates' words
abbrev pub reading_of : List ℕ → List ℕ → Result Reading Fault
reading_of t gates = reply (length gates) (read_of t)

-- ---- in C's numbers, each 0 where there is none
abbrev pub number_of : Result Reading Fault → ℕ
number_of (Ok r) = 0
number_of (Err f) = refusal_number f.refusal

-- qubits, then bits
abbrev pub count_words : Result Reading Fault → List ℕ
count_words (Ok r) = r.qubits ∷ r.bits ∷ []
count_words (Err f) = 0 ∷ 0 ∷ []

-- how many words the gates have
abbrev pub words_in : Result Reading Fault → ℕ
words_in (Ok r) = r.words
words_in (Err f) = 0

abbrev pub position_in : Result Reading Fault → ℕ
position_in (Ok r) = 0
position_in (Err f) = f.position
