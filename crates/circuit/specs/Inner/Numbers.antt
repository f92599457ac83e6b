-- The questions of numbers in two parts: before the sizes are worked out, and of the sizes.
use Rattle.std.specs.Prelude.{Bool, ◌&&◌, List, [], ◌∷◌, ℕ, leb}
use Rattle.store.specs.Store.{store_fits}
use Rattle.verdict.specs.declared.Refusal.TheVariants.{OverLimit, BadStore, TooHeavy, ShortBuffer}
use Rattle.verdict.specs.Questions.{Question, question}
use Rattle.gate.specs.Gate.{max_weight}
use Rattle.circuit.specs.declared.limits.Limits.{Limits}
use Rattle.circuit.specs.declared.footprint.Footprint.{Footprint}
use Rattle.circuit.specs.declared.sizes.Sizes.{Sizes}
use Rattle.circuit.specs.Sizes.{cells_needed, terms_needed}
use Rattle.circuit.specs.Inner.Small.{max_splits}

-- a circuit on n qubits with m bits has sizes that are small enough to be worked out
abbrev pub few : Footprint → ℕ → ℕ → Limits → Bool
few f n m l = leb m l.max_classical_bits && (leb n l.max_qubits && leb f.splits max_splits)

-- question 7, and what question 8 asks first
abbrev pub count_questions : Footprint → ℕ → ℕ → List ℕ → Limits → List Question
count_questions f n m σ l = question 7 (store_fits m σ) BadStore ∷ question 8 (few f n m l) OverLimit ∷ []

-- the rest of question 8, of sizes that are within limits or not, question 9 of the weight, and question 10
abbrev pub size_questions : Bool → ℕ → Bool → List Question
size_questions within weight room = question 8 within OverLimit ∷ question 9 (leb weight max_weight) TooHeavy ∷ question 10 room ShortBuffer ∷ []

-- what question 8 asks of cells and terms, of g gates
abbrev pub few_cells : Limits → ℕ → Sizes → Bool
few_cells l g s = leb (cells_needed s.branches s.stores s.rows) l.max_matrix_cells && leb (terms_needed g s.branches s.rows) l.max_multiply_terms
