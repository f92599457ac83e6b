-- Cases of calls that are given words: what a case gives to its calls, and their answers held against what the case records.
use Rattle.std.specs.Prelude.{cond, List, ℕ, eqb, ltb, get_or, take, replicate, ℤ, pos}
use Rattle.exact.specs.Exact.{exact, imaginary, inv_sqrt_two, omega}
use Rattle.scalar.specs.declared.Scalar.{Scalar}
use Rattle.scalar.specs.Calls.{Answer, value, accepted, integer_answer, add_answer, neg_answer, half_answer, conj_answer, mul_answer}
use Rattle.matrix.specs.Phase.{phase_answer}
use Rattle.compare.specs.Compare.{compare_of}
use Rattle.channel.specs.Lookup.{lookup_of, part_of}
use Rattle.replay.specs.declared.record.Record.{Record}
use Rattle.replay.specs.Numerals.{word_at, word_no, low_byte, low_word}
use Rattle.replay.specs.Record.{scalar_at, begun}
use Rattle.replay.specs.Answers.{with_answer, with_phase, with_comparison, with_blocks, with_povm, with_part}
use Rattle.replay.specs.Words.{marked, placed_at, numbers_at}
use Rattle.replay_cases.specs.declared.numbers.Call.{Call}
use Rattle.replay_cases.specs.declared.numbers.Call.TheVariants.{Integer, Zero, Imaginary, InvSqrtTwo, Omega, Add, Neg, Half, Conj, Mul}

-- ---- the scalar calls, in the order of their numbers; mul comes last
abbrev pub call_of : ℕ → Call
call_of number =
    cond (ltb number 5)
    (cond (eqb number 0) Integer (cond (eqb number 1) Zero (cond (eqb number 2) Imaginary (cond (eqb number 3) InvSqrtTwo Omega))))
    (cond (eqb number 5) Add (cond (eqb number 6) Neg (cond (eqb number 7) Half (cond (eqb number 8) Conj Mul))))

-- what a call answers; `first` is the size of x's first number
abbrev pub answered : Call → ℕ → Scalar → Scalar → Answer
answered Integer first x y = integer_answer (get_or x.n 0 (pos 0))
answered Zero first x y = accepted exact.𝟘
answered Imaginary first x y = accepted imaginary
answered InvSqrtTwo first x y = accepted inv_sqrt_two
answered Omega first x y = accepted (omega (low_word first))
answered Add first x y = add_answer (value x) (value y)
answered Neg first x y = neg_answer (value x)
answered Half first x y = half_answer (value x)
answered Conj first x y = conj_answer (value x)
answered Mul first x y = mul_answer (value x) (value y)

abbrev pub answer_of : ℕ → ℕ → Scalar → Scalar → Answer
answer_of call first x y = answered (call_of call) first x y

-- the number of the call, and two operands
unfoldable pub scalar_case : List ℕ → ℕ → Record
scalar_case t at =
    let call = word_no t at 0 in
    let x = scalar_at t call.next in
    let y = scalar_at t x.next in
    with_answer t (begun y.next) (answer_of call.size (word_no t at 1).size x.value y.value)

-- ---- the phase test: two matrices, each its dim and its words
unfoldable pub phase_case : List ℕ → ℕ → Record
phase_case t at =
    let d = word_at t at in
    let left = placed_at t d.next 5120 in
    let e = word_at t left.next in
    let right = placed_at t e.next 5120 in
    with_phase t (begun right.next) (phase_answer d.size left.words e.size right.words)

-- ---- two channels, the effects of the left one in room for some words, transposed and as the textbook has them, and its block of a store
abbrev pub with_four : List ℕ → Record → List ℤ → List ℤ → List ℕ → List ℤ → Record
with_four t s left right store effects =
    with_part t (with_povm t (with_blocks t (with_comparison t s (compare_of left right)) left (marked effects)) left (marked effects)) (part_of left (lookup_of left store))

unfoldable pub words_case : List ℕ → ℕ → Record
words_case t at =
    let left = placed_at t at 1300 in
    let right = placed_at t left.next 1300 in
    let count = word_at t right.next in
    let store = numbers_at low_byte t count.next 65 in
    with_four t (begun store.next) left.words right.words store.words (take count.size (replicate 100 (pos 0)))
