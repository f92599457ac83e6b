-- The questions of circuit_channel and of circuit_unitary, a list for each: the first that is answered by no decides.
use Rattle.std.specs.Prelude.{Bool, ◌&&◌, List, [], ◌∷◌, ◌++◌, ℕ, suc, ◌/◌, ◌%◌, ◌^◌, min, eqb, leb, length}
use Rattle.algebra.specs.Lists.{total}
use Rattle.store.specs.Store.{store_fits}
use Rattle.verdict.specs.Questions.{Verdict}
use Rattle.verdict.specs.declared.Refusal.TheVariants.{OverLimit, BadStore, MalformedAt, OverCeiling, TooHeavy, ShortBuffer}
use Rattle.verdict.specs.Questions.{Question, question, first_no}
use Rattle.gate.specs.declared.judge.Asking.{Asking}
use Rattle.gate.specs.declared.judge.Asking.TheVariants.{Channel, Unitary}
use Rattle.gate.specs.Gate.{Gate, gate_size, gates_of, weight, max_weight}
use Rattle.gate.specs.Questions.{gate_questions}
use Rattle.circuit.specs.declared.limits.Limits.{Limits}
use Rattle.circuit.specs.declared.footprint.Footprint.{Footprint}
use Rattle.circuit.specs.declared.sizes.Sizes.{Sizes}
use Rattle.circuit.specs.Limits.{matrix_ceilings, branch_ceilings}
use Rattle.circuit.specs.Footprint.{footprint_of}
use Rattle.circuit.specs.Sizes.{cells_needed, terms_needed, result_words, work_words, unitary_cells, unitary_terms, unitary_result, unitary_work}

-- ---- rows that stand in the lists of circuits and of Pauli programs
-- of the limits
abbrev pub limits_question : Limits → Question
limits_question l = question 1 (matrix_ceilings l && branch_ceilings l) OverCeiling

-- of the length of a list of gates, nodes or operations
abbrev pub length_question : List ℕ → Question
length_question ws = question 2 (eqb (length ws % gate_size) 0) (MalformedAt 0)

-- of the store σ of m bits
abbrev pub store_question : ℕ → List ℕ → Question
store_question m σ = question 7 (store_fits m σ) BadStore

-- of the weight of all gates or operations
abbrev pub weight_question : ℕ → Question
weight_question w = question 9 (leb w max_weight) TooHeavy

-- questions 4 to 6, gate by gate; the gates are numbered from i on
abbrev pub gates_questions : Asking → ℕ → ℕ → List Gate → List Question
gates_questions a n i [] = []
gates_questions a n i (g ∷ gs) = gate_questions a n i g ++ gates_questions a n (suc i) gs

-- branches, stores and rows
abbrev pub sizes_of : Footprint → ℕ → Sizes
sizes_of f n = record { branches = 2 ^ f.splits; stores = 2 ^ min f.splits f.written; rows = 2 ^ n }

-- question 8
abbrev pub within_limits : Footprint → ℕ → ℕ → Limits → Bool
within_limits f n m l =
    let s = sizes_of f n in
    leb m l.max_classical_bits && (leb s.branches l.max_branches && (leb n l.max_qubits
    && (leb (cells_needed s.branches s.stores s.rows) l.max_matrix_cells
    && leb (terms_needed f.gates s.branches s.rows) l.max_multiply_terms)))

-- question 10: `result` and `work` are the lengths of the buffers
abbrev pub room_for : Sizes → ℕ → ℕ → Bool
room_for s result work = leb (result_words s.stores s.rows) result && leb (work_words s.branches s.rows) work

-- ---- circuit_channel: n qubits, m classical bits, the initial store σ, the limits l, the gates' words ws, the lengths of the buffers
-- of the limits and of the list's length
abbrev pub length_questions : Limits → List ℕ → List Question
length_questions l ws =
    limits_question l
    ∷ length_question ws
    ∷ question 3 (leb (length ws / gate_size) l.max_operations) OverLimit ∷ []

-- of the words
abbrev pub word_questions : ℕ → ℕ → Limits → List ℕ → List Question
word_questions n m l ws = length_questions l ws ++ gates_questions (Channel m) n 0 (gates_of ws)

-- of the store, the footprint f and numbers
abbrev pub number_questions : Footprint → ℕ → ℕ → List ℕ → Limits → ℕ → ℕ → List Question
number_questions f n m σ l result work =
    store_question m σ
    ∷ question 8 (within_limits f n m l) OverLimit
    ∷ weight_question f.weight
    ∷ question 10 (room_for (sizes_of f n) result work) ShortBuffer ∷ []

module _ (n m : ℕ) (σ : List ℕ) (l : Limits) (ws : List ℕ) (result work : ℕ) where
  abbrev pub channel_questions : List Question
  channel_questions = word_questions n m l ws ++ number_questions (footprint_of m (gates_of ws)) n m σ l result work

  abbrev pub channel_verdict : Verdict
  channel_verdict = first_no channel_questions

-- ---- circuit_unitary: questions 1, 8 and 10 have its own formulas, and 8 comes before the gates
abbrev pub unitary_within : ℕ → ℕ → Limits → Bool
unitary_within n G l =
    leb n l.max_qubits
    && (leb G l.max_operations
    && (leb (unitary_cells (2 ^ n)) l.max_matrix_cells
    && leb (unitary_terms G (2 ^ n)) l.max_multiply_terms))

abbrev pub unitary_room : ℕ → ℕ → ℕ → Bool
unitary_room d result work = leb (unitary_result d) result && leb (unitary_work d) work

-- from the gates on
abbrev pub matrix_questions : ℕ → List ℕ → ℕ → ℕ → List Question
matrix_questions n ws result work =
    gates_questions Unitary n 0 (gates_of ws)
    ++ (weight_question (total weight (gates_of ws)) ∷ question 10 (unitary_room (2 ^ n) result work) ShortBuffer ∷ [])

module _ (n : ℕ) (l : Limits) (ws : List ℕ) (result work : ℕ) where
  abbrev pub unitary_questions : List Question
  unitary_questions =
      question 1 (matrix_ceilings l) OverCeiling
      ∷ length_question ws
      ∷ question 8 (unitary_within n (length ws / gate_size) l) OverLimit
      ∷ matrix_questions n ws result work

  abbrev pub unitary_verdict : Verdict
  unitary_verdict = first_no unitary_questions
