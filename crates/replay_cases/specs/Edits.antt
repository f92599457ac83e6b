-- Cases of kept circuits: an edit of the words, then the verdict on them and their gates copied out, all held against what the case records.
use Rattle.std.specs.Prelude.{cond, List, ℕ, eqb, take, replicate, ℤ}
use Rattle.verdict.specs.Questions.{Verdict}
use Rattle.gate.specs.Gate.{Gate, gate}
use Rattle.gate.specs.declared.judge.GateWords.{GateWords}
use Rattle.circuit.specs.Limits.{ceilings}
use Rattle.kept_circuit.specs.Edits.{start_verdict, started, append_verdict, appended, remove_verdict, removed, replace_verdict, replaced}
use Rattle.kept_verdict.specs.Questions.{kept_verdict, copy_verdict, copied_to}
use Rattle.replay.specs.declared.record.Record.{Record}
use Rattle.replay.specs.Numerals.{word_no, low_byte, low_word}
use Rattle.replay.specs.Record.{begun, with_number, with_numbers}
use Rattle.replay.specs.Answers.{with_verdict}
use Rattle.replay.specs.Checksum.{checksum_of}
use Rattle.replay.specs.Words.{placed_at, numbers_at}
use Rattle.replay_cases.specs.declared.edits.Edit.{Edit}
use Rattle.replay_cases.specs.declared.edits.Edit.TheVariants.{Start, Append, RemoveLast, Replace}

-- 0 a start, whose counts are the gate's a and b, 1 a gate more, 2 the last one less, else the gate at a place replaced
abbrev pub edit_of : ℕ → ℕ → GateWords → Edit
edit_of which position g = cond (eqb which 0) (Start g.a g.b) (cond (eqb which 1) (Append g) (cond (eqb which 2) RemoveLast (Replace position g)))

-- which edit, its position, the gate's five words
abbrev pub edit_at : List ℕ → ℕ → Edit
edit_at t at =
    edit_of (word_no t at 0).size (word_no t at 1).size
    (record {
      kind = low_word (word_no t at 2).size;
      a = low_word (word_no t at 3).size;
      b = low_word (word_no t at 4).size;
      c = low_word (word_no t at 5).size;
      k = low_word (word_no t at 6).size;
    })

abbrev pub behind_edit : List ℕ → ℕ → ℕ
behind_edit t at = (word_no t at 6).next

-- ---- the call that an edit names
abbrev pub gate_given : GateWords → Gate
gate_given g = gate g.kind g.a g.b g.c g.k

abbrev pub edit_verdict : Edit → List ℤ → Verdict
edit_verdict (Start n m) l = start_verdict n m l
edit_verdict (Append g) l = append_verdict l (gate_given g)
edit_verdict RemoveLast l = remove_verdict l
edit_verdict (Replace i g) l = replace_verdict l i (gate_given g)

abbrev pub edited_words : Edit → List ℤ → List ℤ
edited_words (Start n m) l = started n m l
edited_words (Append g) l = appended l (gate_given g)
edited_words RemoveLast l = removed l
edited_words (Replace i g) l = replaced l i (gate_given g)

-- the verdict on the words l; the copy of their gates: the verdict, and each word of the room
abbrev pub with_kept : List ℕ → Record → List ℤ → List ℕ → ℕ → ℕ → Record
with_kept t r l σ result work = with_verdict t r (kept_verdict l σ ceilings result work)

abbrev pub with_copy : List ℕ → Record → List ℤ → List ℕ → Record
with_copy t r l out = with_numbers t (with_verdict t r (copy_verdict l out)) (copied_to l out)

-- the verdict of the edit and the checksum of the words that it leaves, then both of these
abbrev pub called : List ℕ → ℕ → Edit → List ℤ → List ℕ → ℕ → ℕ → List ℕ → Record
called t at e l σ result work out =
    let m = edited_words e l in
    with_copy t (with_kept t (with_number t (with_verdict t (begun at) (edit_verdict e l)) (checksum_of m)) m σ result work) m out

-- the lengths of result and work, and of the room for the copy, each word of which is 7 before
abbrev pub lent : List ℕ → ℕ → Edit → List ℤ → List ℕ → Record
lent t at e l σ = called t (word_no t at 2).next e l σ (word_no t at 0).size (word_no t at 1).size (take (word_no t at 2).size (replicate 100 7))

-- the words before, the edit, the store, the lengths of result and work, and of the room for the copy, each word of which is 7 before
unfoldable pub edit_case : List ℕ → ℕ → Record
edit_case t at =
    let given = placed_at t at 5200 in
    let store = numbers_at low_byte t (behind_edit t given.next) 65 in
    let n = store.next in
    called t (word_no t n 2).next (edit_at t given.next) given.words store.words (word_no t n 0).size (word_no t n 1).size (take (word_no t n 2).size (replicate 100 7))
