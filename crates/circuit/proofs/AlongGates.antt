-- The questions of a list of gates: what its first gate decides, and what it leaves to the rest.
use Rattle.std.specs.Prelude.{Ok, Err}
use mathlib.Core.Path.{◌≡◌, sym, ap, ◌∙◌}
use mathlib.Core.List.{List, ◌++◌}
use Prim.Native.Nat.{ℕ, ◌+◌, ◌-◌, ◌*◌, ◌/◌, ◌<◌}
use native.Mathlib.Numerals.{add-one}
use lib.ListN.{length}
use Rattle.verdict.specs.declared.Refusal.{Refusal}
use Rattle.verdict.specs.Questions.{Question, first_no}
use Rattle.verdict.proofs.Questions.{refused, passed}
use Rattle.gate.specs.declared.judge.Asking.{Asking}
use Rattle.gate.specs.Gate.{Gate, gate_size, gate_at, gates_from}
use Rattle.gate.specs.Questions.{gate_questions}
use Rattle.gate.proofs.Listed.{gates-more}
use Rattle.circuit.specs.Questions.{gates_questions}

module _ (ws : List ℕ) (a : Asking) (n : ℕ) where
  abbrev count : ℕ
  count = length ws / gate_size

  -- the questions from gate i on
  abbrev pub from : ℕ → List Question
  from i = gates_questions a n i (gates_from ws i (length ws / gate_size - i))

  -- gate i
  module _ {i : ℕ} {g : Gate} (l : i < length ws / gate_size) (e : g ≡ gate_at ws (i * gate_size)) where
    split : from i ≡ gate_questions a n i g ++ from (i + 1)
    split =
        ap (gates_questions a n i) (gates-more ws count i l)
        ∙ (λ j. gate_questions a n i (sym e j) ++ gates_questions a n (sym (add-one i) j) (gates_from ws (i + 1) (count - (i + 1))))

    pub gate_decides : {r : Refusal} → Err r ≡ first_no (gate_questions a n i g) → Err r ≡ first_no (from i)
    gate_decides h = refused tt tt (gate_questions a n i g) (from (i + 1)) h ∙ ap first_no (sym split)

    pub rest_decides : Ok tt ≡ first_no (gate_questions a n i g) → first_no (from i) ≡ first_no (from (i + 1))
    rest_decides h = ap first_no split ∙ sym (passed tt tt (gate_questions a n i g) (from (i + 1)) h)
