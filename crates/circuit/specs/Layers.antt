-- A layered circuit: a gate list and the ends of its layers, each the count of gates so far.
use Rattle.std.specs.Prelude.{Bool, cond, not, ◌&&◌, List, [], ◌∷◌, ◌++◌, ℕ, suc, eqb, leb, ltb, length}
use Rattle.algebra.specs.Lists.{some, total}
use Rattle.verdict.specs.Questions.{Verdict}
use Rattle.verdict.specs.declared.Refusal.TheVariants.{BadLayers, ClashAt}
use Rattle.verdict.specs.Questions.{Question, question, first_no}
use Rattle.gate.specs.Gate.{Gate, gates_of, share}
use Rattle.circuit.specs.declared.limits.Limits.{Limits}
use Rattle.circuit.specs.Footprint.{footprint_of}
use Rattle.circuit.specs.Questions.{word_questions, number_questions}

-- the ends rise strictly from at least 1 and close at the gate count; `last` is the end before them, 0 at first
abbrev pub closing : ℕ → ℕ → List ℕ → Bool
closing count last [] = eqb last count
closing count last (e ∷ es) = ltb last e && closing count e es

-- the layer of gate i, from 0: how many of the ends, sound or not, are passed
abbrev pub layer_of : List ℕ → ℕ → ℕ
layer_of ends i = total (λ (e : ℕ). cond (leb e i) 1 0) ends

-- a gate in its layer
pub record Fired : Type 0 where
  pub gate : Gate
  pub layer : ℕ

-- the gates of a list, numbered from i on
abbrev pub fired : List ℕ → ℕ → List Gate → List Fired
fired ends i [] = []
fired ends i (g ∷ gs) = record { gate = g; layer = layer_of ends i } ∷ fired ends (suc i) gs

-- two gates of one layer share a qubit or a classical bit
abbrev pub clash : Fired → Fired → Bool
clash a b = eqb a.layer b.layer && share a.gate b.gate

-- ---- the questions: 11, the ends; 12, gate by gate: no gate before it in its layer shares with it
-- the gates before gate i are `before`, the last one first
abbrev pub clash_questions : List Fired → ℕ → List Fired → List Question
clash_questions before i [] = []
clash_questions before i (g ∷ gs) = question 12 (not (some (clash g) before)) (ClashAt i) ∷ clash_questions (g ∷ before) (suc i) gs

abbrev pub layer_questions : List ℕ → List Gate → List Question
layer_questions ends gs = question 11 (closing (length gs) 0 ends) BadLayers ∷ clash_questions [] 0 (fired ends 0 gs)

-- the questions of circuit_channel, with the layers' after the gates'
module _ (n m : ℕ) (σ : List ℕ) (l : Limits) (ws ends : List ℕ) (result work : ℕ) where
  abbrev pub layered_questions : List Question
  layered_questions = word_questions n m l ws ++ (layer_questions ends (gates_of ws) ++ number_questions (footprint_of m (gates_of ws)) n m σ l result work)

  abbrev pub layered_verdict : Verdict
  layered_verdict = first_no layered_questions
