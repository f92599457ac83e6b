-- What each call answered, held against the record.
use Rattle.std.specs.Prelude.{List, [], ◌∷◌, ℕ, ◌/◌, ◌%◌, length, ℤ, Result, Ok, Err}
use Rattle.std.specs.Result.{result_unwrap_or}
use Rattle.exact.specs.Exact.{exact}
use Rattle.scalar.specs.declared.Scalar.{Scalar}
use Rattle.scalar.specs.Calls.{scalar_of}
use Rattle.matrix.specs.declared.Phase.{Phase}
use Rattle.matrix.specs.declared.Phase.TheVariants.{Equivalent, Different}
use Rattle.verdict.specs.declared.Refusal.{Refusal}
use Rattle.verdict.specs.Questions.{Verdict}
use Rattle.verdict.specs.Verdict.{refusal_number, verdict_number, verdict_index}
use Rattle.compare.specs.declared.Comparison.{Comparison}
use Rattle.compare.specs.declared.Comparison.TheVariants.{Same, Dimensions, Differs}
use Rattle.effects.specs.Effects.{effects_verdict, result_of, povm_of}
use Rattle.replay.specs.declared.record.Record.{Record}
use Rattle.replay.specs.Record.{with_number, with_numbers, with_scalar}
use Rattle.replay.specs.Checksum.{checksum_of}

abbrev pub zero_scalar : Scalar
zero_scalar = scalar_of exact.𝟘

-- ---- a scalar call: verdict and value, 0 where it refused
abbrev pub with_answer : List ℕ → Record → Result Scalar Refusal → Record
with_answer t r a = with_scalar t (with_number t r (verdict_number a)) (result_unwrap_or a zero_scalar)

-- ---- the phase test: verdict, and 1 for equivalent
abbrev pub phase_number : Result Phase Refusal → ℕ
phase_number (Ok Equivalent) = 1
phase_number (Ok Different) = 0
phase_number (Err e) = 0

abbrev pub with_phase : List ℕ → Record → Result Phase Refusal → Record
with_phase t r a = with_number t (with_number t r (verdict_number a)) (phase_number a)

-- ---- a verdict: number and index
abbrev pub with_verdict : List ℕ → Record → Verdict → Record
with_verdict t r v = with_numbers t r (verdict_number v ∷ verdict_index v ∷ [])

-- ---- a circuit: verdict and index, the checksums of both buffers
abbrev pub with_call : List ℕ → Record → Verdict → List ℤ → List ℤ → Record
with_call t r v result work = with_numbers t r (verdict_number v ∷ verdict_index v ∷ checksum_of result ∷ checksum_of work ∷ [])

-- ---- classical_blocks and povm_effects: the verdict, the checksum of the result
abbrev pub with_effects : List ℕ → Record → Verdict → List ℤ → Record
with_effects t r v result = with_number t (with_number t r (verdict_number v)) (checksum_of result)

abbrev pub with_blocks : List ℕ → Record → List ℤ → List ℤ → Record
with_blocks t r channel result = with_effects t r (effects_verdict channel result) (result_of channel result)

abbrev pub with_povm : List ℕ → Record → List ℤ → List ℤ → Record
with_povm t r channel result = with_effects t r (effects_verdict channel result) (povm_of channel result)

-- ---- compare: document 01's verdict; 0 same, 1 dimensions, 2 an entry; the store's two words, row and column of the entry
abbrev pub finding_numbers : Result Comparison Refusal → List ℕ
finding_numbers (Err e) = refusal_number e ∷ 0 ∷ 0 ∷ 0 ∷ 0 ∷ 0 ∷ []
finding_numbers (Ok Same) = 0 ∷ 0 ∷ 0 ∷ 0 ∷ 0 ∷ 0 ∷ []
finding_numbers (Ok Dimensions) = 0 ∷ 1 ∷ 0 ∷ 0 ∷ 0 ∷ 0 ∷ []
finding_numbers (Ok (Differs d)) = 0 ∷ 2 ∷ d.place.store % 4294967296 ∷ d.place.store / 4294967296 ∷ d.place.row ∷ d.place.col ∷ []

-- both scalars are zero, unless an entry differs
abbrev pub found_left : Result Comparison Refusal → Scalar
found_left (Ok (Differs d)) = d.left
found_left (Ok Same) = zero_scalar
found_left (Ok Dimensions) = zero_scalar
found_left (Err e) = zero_scalar

abbrev pub found_right : Result Comparison Refusal → Scalar
found_right (Ok (Differs d)) = d.right
found_right (Ok Same) = zero_scalar
found_right (Ok Dimensions) = zero_scalar
found_right (Err e) = zero_scalar

abbrev pub with_comparison : List ℕ → Record → Result Comparison Refusal → Record
with_comparison t r a = with_scalar t (with_scalar t (with_numbers t r (finding_numbers a)) (found_left a)) (found_right a)

-- ---- the lookup: length and checksum of the part
abbrev pub with_part : List ℕ → Record → List ℤ → Record
with_part t r part = with_number t (with_number t r (length part)) (checksum_of part)
