-- Cases of compare_list: what a case gives to the call, and what it answers and leaves held against what the case records.
use Rattle.std.specs.Prelude.{List, [], ◌∷◌, ℕ, ◌+◌, ◌*◌, take, replicate, ℤ, pos, Result}
use Rattle.std.specs.Result.{result_unwrap_or}
use Rattle.verdict.specs.declared.Refusal.{Refusal}
use Rattle.verdict.specs.Verdict.{verdict_number, verdict_index}
use Rattle.circuit.specs.declared.limits.Limits.{Limits}
use Rattle.circuit.specs.Limits.{ceilings}
use Rattle.compare_list.specs.Call.{reply_of, answers_after, scalars_after, cleared}
use Rattle.replay.specs.declared.record.Record.{Record}
use Rattle.replay.specs.Numerals.{word_no, low_byte, low_word}
use Rattle.replay.specs.Record.{begun, with_numbers}
use Rattle.replay.specs.Checksum.{checksum_of}
use Rattle.replay.specs.Words.{Filled, marked, numbers_at}

-- verdict, index and total; the checksums of both channels' words, of the work and of the scalars; each word of the answers
abbrev pub with_reply : List ℕ → Record → Result ℕ Refusal → List ℤ → List ℤ → List ℤ → List ℤ → List ℕ → Record
with_reply t r a left right work scalars answers =
    with_numbers t
    (with_numbers t r
    (verdict_number a ∷ verdict_index a ∷ result_unwrap_or a 0 ∷ checksum_of left ∷ checksum_of right ∷ checksum_of work ∷ checksum_of scalars ∷ []))
    answers

-- ---- what is read from `at` on: the high and the low 32 bits of the allowance, the words of the pairs, and the bytes of their stores
module _ (t : List ℕ) (at : ℕ) where
  abbrev pub allowance : ℕ
  allowance = low_word (word_no t at 0).size * 4294967296 + low_word (word_no t at 1).size

  abbrev pub words : Filled ℕ
  words = numbers_at low_word t (word_no t at 1).next 1600

  abbrev pub stores : Filled ℕ
  stores = numbers_at low_byte t words.next 100

-- ---- so many pairs in the words ws and the bytes bs, the allowance n; the words of both channels r and s, of the work w, of the answers o and of their scalars z
module _ (t : List ℕ) (at count : ℕ) (ws bs : List ℕ) (n : ℕ) (r s w : List ℤ) (o : List ℕ) (z : List ℤ) where
  abbrev pub asked : {A : Type 0} → (ℕ → List ℕ → List ℕ → Limits → ℕ → List ℤ → List ℤ → List ℤ → List ℕ → List ℤ → A) → A
  asked f = f count ws bs ceilings n r s w o z

  abbrev pub compared : Record
  compared = with_reply t (begun at) (asked reply_of) (asked cleared r) (asked cleared s) (asked cleared w) (asked scalars_after) (asked answers_after)

abbrev pub called : List ℕ → ℕ → ℕ → List ℤ → List ℤ → List ℤ → List ℕ → List ℤ → Record
called t at count r s w o z = compared t (stores t at).next count (words t at).words (stores t at).words (allowance t at) r s w o z

-- how many pairs there are, and the lengths of the five buffers; then the pairs
unfoldable pub lent : List ℕ → ℕ → List ℤ → List ℤ → List ℤ → List ℕ → List ℤ → Record
lent t at r s w o z =
    called t (word_no t at 5).next (word_no t at 0).size (take (word_no t at 1).size r) (take (word_no t at 2).size s) (take (word_no t at 3).size w)
    (take (word_no t at 4).size o) (take (word_no t at 5).size z)

abbrev pub room : ℕ → List ℤ
room n = marked (replicate n (pos 0))

-- the buffers are marked before but for the answers, each word of which is 7
unfoldable pub list_case : List ℕ → ℕ → Record
list_case t at = lent t at (room 2600) (room 2600) (room 2600) (replicate 240 7) (room 340)
