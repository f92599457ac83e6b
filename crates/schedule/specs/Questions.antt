-- The questions of judge_schedule: a gate list, a reordered one, and a table that gives each new gate its old position.
use Rattle.std.specs.Prelude.{Bool, not, ◌&&◌, ◌||◌, List, [], ◌∷◌, ◌++◌, ℕ, zero, suc, ◌%◌, eqb, ltb, length, get_or}
use Rattle.algebra.specs.Lists.{all_below}
use Rattle.verdict.specs.Questions.{Verdict}
use Rattle.verdict.specs.declared.Refusal.TheVariants.{MalformedAt, NotScheduleAt}
use Rattle.verdict.specs.Questions.{Question, question, first_no}
use Rattle.gate.specs.declared.judge.Asking.TheVariants.{Placing}
use Rattle.gate.specs.Gate.{Gate, gate, gate_size, gates_of, share}
use Rattle.circuit.specs.Questions.{gates_questions}

-- of one list, on n qubits and m classical bits: 2, then 4 and 5 gate by gate
abbrev pub list_questions : ℕ → ℕ → List ℕ → List Question
list_questions n m ws = question 2 (eqb (length ws % gate_size) 0) (MalformedAt 0) ∷ gates_questions (Placing m) n 0 (gates_of ws)

-- ---- the table
-- what a place past the end of a list reads
abbrev pub idle : Gate
idle = gate 0 0 0 0 0

abbrev pub alike : Gate → Gate → Bool
alike g h = eqb g.kind h.kind && (eqb g.a h.a && (eqb g.b h.b && (eqb g.c h.c && eqb g.k h.k)))

-- a question of each of the k new positions from i on
abbrev pub along : (ℕ → Bool) → ℕ → ℕ → List Question
along sound i zero = []
along sound i (suc k) = question 15 (sound i) (NotScheduleAt i) ∷ along sound (suc i) k

-- the new gate at j stands in the way of a later one, g of old position k: it has that position, or it shares with g and has a later one
abbrev pub bars : List Gate → List ℕ → Gate → ℕ → ℕ → Bool
bars new table g k j = eqb (get_or table j 0) k || (ltb k (get_or table j 0) && share (get_or new j idle) g)

module _ (old new : List Gate) (table : List ℕ) where
  abbrev pub same_lengths : Bool
  same_lengths = eqb (length new) (length old) && eqb (length table) (length old)

  -- new position i may hold g, of old position k: k is a position of the old list, g stands there, and nothing before i stands in the way
  abbrev pub fits : ℕ → Gate → ℕ → Bool
  fits i g k = ltb k (length old) && (alike g (get_or old k idle) && all_below i (λ (j : ℕ). not (bars new table g k j)))

  abbrev pub sound : ℕ → Bool
  sound i = fits i (get_or new i idle) (get_or table i 0)

  abbrev pub table_questions : List Question
  table_questions = question 15 same_lengths (NotScheduleAt 0) ∷ along sound 0 (length table)

-- ---- the call: n qubits, m classical bits, the words of the old list and of the new one, the table
module _ (n m : ℕ) (old new table : List ℕ) where
  abbrev pub schedule_questions : List Question
  schedule_questions = list_questions n m old ++ (list_questions n m new ++ table_questions (gates_of old) (gates_of new) table)

  abbrev pub schedule_verdict : Verdict
  schedule_verdict = first_no schedule_questions
