-- A pair under way: its circuits weighed, and the lent buffers, which are zero.
use Rattle.std.specs.Prelude.{◌≡◌, List, ℕ, ◌≤◌, length, ℤ, Result}
use Rattle.verdict.specs.declared.Refusal.{Refusal}
use Rattle.verdict.specs.Questions.{granted}
use Rattle.circuit.specs.declared.limits.Limits.{Limits}
use Rattle.circuit.specs.Questions.{channel_questions}
use Rattle.judge.specs.Call.{result_after}
use Rattle.pair_list.specs.Pairs.{Circuit}
use Rattle.work_list.specs.Serving.{terms, zeros}

-- all words are zero
abbrev pub Blank : List ℤ → Type 0
Blank l = l ≡ zeros (length l)

-- what circuit_channel leaves in the result r, with the work words w
abbrev pub delivers : Limits → Circuit → List ℤ → List ℤ → List ℤ
delivers l c r w = result_after c.qubits c.bits c.store l c.gates r w

-- the terms of a circuit that circuit_channel accepts in so many words, or its refusal
abbrev pub weighed : Circuit → Limits → ℕ → ℕ → Result ℕ Refusal
weighed c l result work = granted (terms c) (channel_questions c.qubits c.bits c.store l c.gates result work)

-- no more is spent than is allowed, and the buffers are zero
pub record Ready (spent allowance : ℕ) (r s w : List ℤ) : Type 0 where
  pub within : spent ≤ allowance
  pub left_blank : Blank r
  pub right_blank : Blank s
  pub work_blank : Blank w
