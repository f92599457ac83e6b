-- Cases of texts: what a case gives to the call, and the call's answer held against what the case records.
use Rattle.std.specs.Prelude.{List, [], ◌∷◌, ℕ, length, take, replicate, Result, Ok, Err}
use Rattle.std.specs.Result.{result_unwrap_or}
use Rattle.verdict.specs.declared.Refusal.{Refusal}
use Rattle.verdict.specs.Verdict.{refusal_number, verdict_number, verdict_index}
use Rattle.qasm.specs.declared.reader.Reading.{Reading}
use Rattle.qasm.specs.declared.reader.Fault.{Fault}
use Rattle.qasm.specs.Reading.{read_of, reply, filled}
use Rattle.qasm_writer.specs.Call.{write_reply, room_after}
use Rattle.replay.specs.declared.record.Record.{Record}
use Rattle.replay.specs.Numerals.{word_at, word_no, low_word}
use Rattle.replay.specs.Record.{begun, with_numbers, with_bytes}
use Rattle.replay.specs.Words.{numbers_at}
use Rattle.replay.specs.Lines.{line_bytes, behind_line}

-- ---- a circuit that is read from a text: verdict, both counts, how many words there are, and the position of the fault; then the words that were written
abbrev pub reading_numbers : Result Reading Fault → List ℕ
reading_numbers (Ok r) = 0 ∷ r.qubits ∷ r.bits ∷ r.words ∷ 0 ∷ []
reading_numbers (Err f) = refusal_number f.refusal ∷ 0 ∷ 0 ∷ 0 ∷ f.position ∷ []

abbrev pub words_read : Result Reading Fault → ℕ
words_read (Ok r) = r.words
words_read (Err f) = 0

abbrev pub with_reading : List ℕ → Record → Result Reading Fault → List ℕ → Record
with_reading t s a words = with_numbers t (with_numbers t s (reading_numbers a)) (take (words_read a) words)

abbrev pub with_read : List ℕ → Record → List ℕ → List ℕ → Record
with_read t s given words = with_reading t s (reply (length words) (read_of given)) (filled words (read_of given))

-- the text, and the room for words
abbrev pub read_case : List ℕ → ℕ → Record
read_case t at = let room = word_at t (behind_line t at) in with_read t (begun room.next) (line_bytes t at) (take room.size (replicate 1024 0))

-- ---- a circuit that is written: verdict, index, and how many bytes there are; then the bytes that were written
abbrev pub writing_numbers : Result ℕ Refusal → List ℕ
writing_numbers a = verdict_number a ∷ verdict_index a ∷ result_unwrap_or a 0 ∷ []

abbrev pub with_writing : List ℕ → Record → Result ℕ Refusal → List ℕ → Record
with_writing t s a out = with_bytes t (with_numbers t s (writing_numbers a)) (take (result_unwrap_or a 0) out)

abbrev pub with_written : List ℕ → Record → ℕ → ℕ → List ℕ → List ℕ → Record
with_written t s n m words out = with_writing t s (write_reply n m words out) (room_after n m words out)

-- both counts, the words, and the room for bytes
abbrev pub write_case : List ℕ → ℕ → Record
write_case t at =
    let n = word_no t at 0 in
    let m = word_no t at 1 in
    let words = numbers_at low_word t m.next 1024 in
    let room = word_at t words.next in
    with_written t (begun room.next) (low_word n.size) (low_word m.size) words.words (take room.size (replicate 300 0))
