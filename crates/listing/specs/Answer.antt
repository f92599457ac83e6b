-- What is answered to a text: the listing of its circuit's channel, the line of the circuit's refusal, or that of a text that is no input.
use Rattle.std.specs.Prelude.{cond, List, ℕ, ℤ, Ok, Err}
use Rattle.verdict.specs.Questions.{Verdict}
use Rattle.circuit.specs.Limits.{ceilings}
use Rattle.verdict.specs.Verdict.{refusal_number, refusal_index}
use Rattle.judge.specs.Call.{verdict_of, result_after, work_after}
use Rattle.circuit_text.specs.Input.{bits_in, store_in, words_in, circuit_in, numbers_of, is_input_text}
use Rattle.listing.specs.Listing.{listing, refusal_line, input_line}

-- the lines for a verdict, of which `channel` are the words that an accepted call leaves
abbrev pub lines_for : Verdict → List ℤ → List ℕ
lines_for (Ok x) channel = listing channel
lines_for (Err r) channel = refusal_line (refusal_number r) (refusal_index r)

-- n qubits, m bits, the initial store σ and the gates' words ws; the limits are the defaults; the result r and the work buffer w
abbrev pub lines_of : ℕ → ℕ → List ℕ → List ℕ → List ℤ → List ℤ → List ℕ
lines_of n m σ ws r w = lines_for (verdict_of n m σ ceilings ws r w) (result_after n m σ ceilings ws r w)

-- ---- of a text, whose numbers are ns
module _ (t : List ℕ) (r w : List ℤ) where
  abbrev pub answer_of : List ℕ
  answer_of = let ns = numbers_of t in cond (is_input_text t) (lines_of (circuit_in ns).qubits (bits_in ns) (store_in ns) (words_in ns) r w) input_line

  -- the buffers afterwards: as the judge leaves them; as they were, where the text is no input
  abbrev pub result_of : List ℤ
  result_of = let ns = numbers_of t in cond (is_input_text t) (result_after (circuit_in ns).qubits (bits_in ns) (store_in ns) ceilings (words_in ns) r w) r

  abbrev pub work_of : List ℤ
  work_of = let ns = numbers_of t in cond (is_input_text t) (work_after (circuit_in ns).qubits (bits_in ns) (store_in ns) ceilings (words_in ns) r w) w
