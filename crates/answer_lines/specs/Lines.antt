-- The bytes of an answer on two texts: a first line for scripts, then lines for people.
use Rattle.std.specs.Prelude.{cond, List, [], ◌++◌, ℕ, eqb, length, Err}
use Prim.Native.String.{String}
use Rattle.algebra.specs.Lists.{concat_map}
use Rattle.verdict.specs.Questions.{Verdict}
use Rattle.verdict.specs.Verdict.{verdict_number, verdict_index}
use Rattle.scalar.specs.declared.Scalar.{Scalar}
use Rattle.scalar.specs.Calls.{value}
use Rattle.gate.specs.Gate.{gates_of}
use Rattle.compare.specs.declared.Place.{Place}
use Rattle.text.specs.Decimal.{decimal}
use Rattle.qasm.specs.Writing.{gate_text}
use Rattle.answers.specs.Utf8.{utf8}
use Rattle.answers.specs.Numbers.{number_text}
use Rattle.answers.specs.States.{store_bits, entry_text}
use Rattle.answers.specs.Reasons.{reason}
use Rattle.answer_lines.specs.declared.Fault.{Fault}
use Rattle.answer_lines.specs.declared.Which.{Which}
use Rattle.answer_lines.specs.declared.Which.TheVariants.{Left, Right, Only}

-- the most bytes of an answer
abbrev pub max_answer : ℕ
max_answer = 1024

-- ---- two channels were compared
abbrev pub same_text : List ℕ
same_text = utf8 "same\nThe two circuits do the same: their channels are equal at every store, row and column.\n"

-- a number behind these bytes
abbrev pub labelled : String → ℕ → List ℕ
labelled label n = utf8 label ++ decimal n

-- the counts of the left circuit and of the right one
abbrev pub dimensions_text : ℕ → ℕ → ℕ → ℕ → List ℕ
dimensions_text n m n' m' = labelled "dimensions\nqubits: " n ++ labelled " against " n' ++ labelled "; classical bits: " m ++ labelled " against " m' ++ utf8 "\n"

-- what the classical bits hold at the end, where there are any
abbrev pub after_storing : ℕ → ℕ → List ℕ
after_storing m s = cond (eqb m 0) [] (utf8 "after storing " ++ store_bits m s ++ utf8 ", ")

abbrev pub valued : String → Scalar → List ℕ
valued label x = utf8 label ++ number_text (value x)

-- n qubits and m classical bits, the place of the first unequal entry, and the entry of the left channel and of the right one
abbrev pub different_text : ℕ → ℕ → Place → Scalar → Scalar → List ℕ
different_text n m p x y = utf8 "different\n" ++ after_storing m p.store ++ entry_text n p.row p.col ++ valued ": " x ++ valued " against " y ++ utf8 "\n"

-- ---- a refusal
abbrev pub opening : Which → List ℕ
opening Left = utf8 "left refused "
opening Right = utf8 "right refused "
opening Only = utf8 "refused "

-- the verdict's number, the gate's index and the byte's position, each 0 where there is none
abbrev pub first_line : Which → Verdict → ℕ → List ℕ
first_line which v position = opening which ++ decimal (verdict_number v) ++ labelled " " (verdict_index v) ++ labelled " " position ++ utf8 "\n"

-- the gate at fault behind its place, where there is one
abbrev pub gate_end : List ℕ → List ℕ
gate_end gate = cond (eqb (length gate) 0) (utf8 "\n") (utf8 ": " ++ concat_map gate_text (gates_of gate))

-- line 0 is none
abbrev pub place_text : ℕ → ℕ → List ℕ → List ℕ
place_text line column gate = cond (eqb line 0) [] (labelled "line " line ++ labelled ", column " column ++ gate_end gate)

-- where a text has more gates than there is room for
abbrev pub room_text : ℕ → ℕ → List ℕ
room_text gates room = cond (eqb gates 0) [] (decimal gates ++ labelled " gates, and room for " room ++ utf8 "\n")

-- `gate` has the words of the gate at fault, and `room` says for how many gates room is lent
abbrev pub refused_text : Which → Fault → List ℕ → ℕ → List ℕ
refused_text which r gate room =
    first_line which (Err r.refusal) r.position ++ place_text r.line r.column gate ++ room_text r.gates room ++ reason (Err r.refusal) ++ utf8 "\n"
