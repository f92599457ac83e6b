-- What becomes of a text: its circuit read and judged, and what that leaves in the lent buffers.
use Rattle.std.specs.Prelude.{cond, List, ◌++◌, ℕ, ◌-◌, min, leb, length, replicate, ℤ, Result, Ok, Err}
use Rattle.std.specs.Result.{result_map_both}
use Rattle.verdict.specs.declared.Refusal.TheVariants.{ShortBuffer}
use Rattle.circuit.specs.declared.limits.Limits.{Limits}
use Rattle.circuit.specs.Limits.{ceilings}
use Rattle.judge.specs.Call.{verdict_of, result_after, work_after}
use Rattle.qasm.specs.declared.reader.Reading.{Reading}
use Rattle.qasm.specs.Reading.{Outcome, circuit, refused, fault_at}
use Rattle.text_sides.specs.declared.NoChannel.{NoChannel}
use Rattle.text_sides.specs.declared.NoChannel.TheVariants.{Faulty, Refused}

-- the most classical bits
abbrev pub max_bits : ℕ
max_bits = ceilings.max_classical_bits

-- the store that a circuit of m bits starts with: the bits that are given, and zeros behind them, one for each bit
abbrev pub store_for : ℕ → List ℕ → List ℕ
store_for m σ = σ ++ replicate (min m max_bits - length σ) 0

-- the gates' words that were read of a text that has no channel, and of any
abbrev pub words_read : NoChannel → ℕ
words_read (Faulty f) = 0
words_read (Refused reading r) = reading.words

abbrev pub words_of : Result Reading NoChannel → ℕ
words_of (Ok reading) = reading.words
words_of (Err why) = words_read why

-- the bits given σ, the limits l, the words lent for gates g, the result r and the work buffer w
module _ (σ : List ℕ) (l : Limits) (g : List ℕ) (r w : List ℤ) where
  -- of what is read of a text: the counts where its circuit is accepted; or the counts and the refusal of that circuit, or the fault of the text with its position
  abbrev pub side_by : Outcome → Result Reading NoChannel
  side_by (circuit n m ws) = cond (leb (length ws) (length g))
      (result_map_both (λ _. record { qubits = n; bits = m; words = length ws }) (Refused (record { qubits = n; bits = m; words = length ws })) (verdict_of n m (store_for m σ) l ws r w))
      (Err (Faulty (fault_at ShortBuffer 0)))
  side_by (refused x at) = Err (Faulty (fault_at x at))

  abbrev pub result_by : Outcome → List ℤ
  result_by (circuit n m ws) = cond (leb (length ws) (length g)) (result_after n m (store_for m σ) l ws r w) r
  result_by (refused x at) = r

  abbrev pub work_by : Outcome → List ℤ
  work_by (circuit n m ws) = cond (leb (length ws) (length g)) (work_after n m (store_for m σ) l ws r w) w
  work_by (refused x at) = w
