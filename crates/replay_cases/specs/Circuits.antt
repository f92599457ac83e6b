-- Cases of circuits: what a case gives to its calls, and their answers held against what the case records.
use Rattle.std.specs.Prelude.{List, ℕ, take, replicate, ℤ, pos}
use Rattle.verdict.specs.Questions.{Verdict}
use Rattle.compare.specs.Compare.{compare_of}
use Rattle.unitary.specs.Unitary as unitary
use Rattle.judge.specs.Call.{verdict_of, result_after, work_after}
use Rattle.judge.specs.Layered.{layered_verdict_of, layered_result, layered_work}
use Rattle.plain.specs.Call.{plain_verdict_of, plain_result, plain_work}
use Rattle.text.specs.Page.{Page, page, write}
use Rattle.listing.specs.Answer.{answer_of}
use Rattle.replay.specs.declared.record.Record.{Record}
use Rattle.replay.specs.Numerals.{word_no}
use Rattle.replay.specs.Record.{begun, with_number, with_bytes}
use Rattle.replay.specs.Answers.{with_call, with_blocks, with_comparison}
use Rattle.replay.specs.Words.{Filled, marked}
use Rattle.replay.specs.Lines.{line_bytes, behind_line}
use Rattle.replay_cases.specs.declared.kinds.CircuitCall.{CircuitCall}
use Rattle.replay_cases.specs.declared.kinds.CircuitCall.TheVariants.{Unitary, Layered, Plain, Channel}
use Rattle.replay_cases.specs.Given.{Given, ends_at, given}

abbrev pub room : ℕ → List ℤ
room n = replicate n (pos 0)

-- ---- one circuit: what the call answers and leaves, of the ends of its layers, the result r and the work buffer w
abbrev pub asked_verdict : CircuitCall → Given → List ℕ → List ℤ → List ℤ → Verdict
asked_verdict Unitary c ends r w = unitary.verdict_of c.n c.limits c.gates r w
asked_verdict Layered c ends r w = layered_verdict_of c.n c.bits c.store c.limits c.gates ends r w
asked_verdict Plain c ends r w = plain_verdict_of c.n c.bits c.store c.limits c.gates r w
asked_verdict Channel c ends r w = verdict_of c.n c.bits c.store c.limits c.gates r w

abbrev pub asked_result : CircuitCall → Given → List ℕ → List ℤ → List ℤ → List ℤ
asked_result Unitary c ends r w = unitary.result_after c.n c.limits c.gates r w
asked_result Layered c ends r w = layered_result c.n c.bits c.store c.limits c.gates ends r w
asked_result Plain c ends r w = plain_result c.n c.bits c.store c.limits c.gates r w
asked_result Channel c ends r w = result_after c.n c.bits c.store c.limits c.gates r w

abbrev pub asked_work : CircuitCall → Given → List ℕ → List ℤ → List ℤ → List ℤ
asked_work Unitary c ends r w = unitary.work_after c.n c.limits c.gates r w
asked_work Layered c ends r w = layered_work c.n c.bits c.store c.limits c.gates ends r w
asked_work Plain c ends r w = plain_work c.n c.bits c.store c.limits c.gates r w
asked_work Channel c ends r w = work_after c.n c.bits c.store c.limits c.gates r w

-- the call on the circuit at `at`, on marked buffers: what it leaves in the result, and its answer held against the record
module _ (call : CircuitCall) (t : List ℕ) (at : ℕ) (r w : List ℤ) where
  abbrev pub ends : Filled ℕ
  ends = ends_at call t (given t at).next 1100

  abbrev pub called_verdict : Verdict
  called_verdict = asked_verdict call (given t at) ends.words (marked r) (marked w)

  abbrev pub called_result : List ℤ
  called_result = asked_result call (given t at) ends.words (marked r) (marked w)

  abbrev pub called_work : List ℤ
  called_work = asked_work call (given t at) ends.words (marked r) (marked w)

  abbrev pub called : Record
  called = with_call t (begun ends.next) called_verdict called_result called_work

-- of a channel its effects, in a buffer of this length; of a unitary, of a layered circuit and of one of the profile none are recorded
abbrev pub traced : CircuitCall → Record → List ℕ → ℕ → List ℤ → Record
traced Channel s t n channel = with_blocks t s channel (marked (take n (room 2600)))
traced Unitary s t n channel = s
traced Layered s t n channel = s
traced Plain s t n channel = s

-- the lengths of three buffers, then the circuit
unfoldable pub answered : CircuitCall → List ℕ → ℕ → List ℤ → List ℤ → Record
answered call t at r w =
    let lent = take (word_no t at 0).size r in
    let worked = take (word_no t at 1).size w in
    let from = (word_no t at 2).next in
    traced call (called call t from lent worked) t (word_no t at 2).size (called_result call t from lent worked)

unfoldable pub circuit_case : CircuitCall → List ℕ → ℕ → Record
circuit_case call t at = answered call t at (room 656000) (room 167000)

-- ---- two circuits, whose channels are compared; the second one's work buffer is as the first one left it
abbrev pub channel_of : List ℕ → ℕ → List ℤ → List ℤ → List ℤ
channel_of t at r w = result_after (given t at).n (given t at).bits (given t at).store (given t at).limits (given t at).gates r w

abbrev pub work_of : List ℕ → ℕ → List ℤ → List ℤ → List ℤ
work_of t at r w = work_after (given t at).n (given t at).bits (given t at).store (given t at).limits (given t at).gates r w

-- the channels in the buffers l and r, the work buffer w
abbrev pub compared : List ℕ → ℕ → List ℤ → List ℤ → List ℤ → Record
compared t at l r w =
    let second = (given t at).next in
    let left = channel_of t at l w in
    let right = channel_of t second r (work_of t at l w) in
    with_comparison t (begun (given t second).next) (compare_of left right)

unfoldable pub compare_case : List ℕ → ℕ → Record
compare_case t at =
    let second = (given t at).next in
    let left = channel_of t at (room 41000) (room 3300) in
    let right = channel_of t second (room 41000) (work_of t at (room 41000) (room 3300)) in
    with_comparison t (begun (given t second).next) (compare_of left right)

-- ---- a text that is listed: the length of the answer and the answer
abbrev pub with_said : List ℕ → Record → Page → Record
with_said t s p = with_bytes t (with_number t s p.at) (take p.at p.room)

abbrev pub listed : List ℕ → ℕ → List ℤ → List ℤ → List ℕ → Record
listed t at r w out = with_said t (begun (behind_line t at)) (write (page out 0) (answer_of (line_bytes t at) r w))

unfoldable pub listing_case : List ℕ → ℕ → Record
listing_case t at = listed t at (room 5200) (room 2000) (replicate 202727 0)
