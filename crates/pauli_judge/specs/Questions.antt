-- The questions of pauli_channel, a list: the first that is answered by no decides.
use Rattle.std.specs.Prelude.{Bool, ◌&&◌, List, [], ◌∷◌, ◌++◌, ℕ, ◌+◌, ◌*◌, ◌/◌, leb, length}
use Rattle.verdict.specs.Questions.{Verdict}
use Rattle.verdict.specs.declared.Refusal.TheVariants.{OverLimit, ShortBuffer}
use Rattle.verdict.specs.Questions.{Question, question, first_no}
use Rattle.gate.specs.Gate.{gate_size, gates_of}
use Rattle.circuit.specs.declared.limits.Limits.{Limits}
use Rattle.circuit.specs.declared.sizes.Sizes.{Sizes}
use Rattle.circuit.specs.Limits.{ceilings}
use Rattle.circuit.specs.Sizes.{result_words}
use Rattle.circuit.specs.Questions.{sizes_of, limits_question, length_question, store_question, weight_question}
use Rattle.pauli_words.specs.Words.{nodes_of, operations_of}
use Rattle.pauli_words.specs.Questions.{axis_fits, nodes_questions, operations_questions}
use Rattle.pauli_judge.specs.declared.footprint.ProgramFootprint.{ProgramFootprint}
use Rattle.pauli_judge.specs.Footprint.{program_footprint}
use Rattle.pauli_judge.specs.Sizes.{program_cells, program_terms, program_work}

-- as many nodes as may be listed
abbrev pub max_listed : ℕ
max_listed = 1024

-- question 3: the operations and 2n; at most five qubits; the listed nodes
abbrev pub few_operations : ℕ → Limits → List ℕ → List ℕ → Bool
few_operations n l ns os =
    leb (length os / gate_size + 2 * n) l.max_operations && (leb n ceilings.max_qubits && leb (length ns / gate_size) max_listed)

-- question 8
abbrev pub program_within : ProgramFootprint → ℕ → ℕ → Limits → Bool
program_within f n m l =
    let s = sizes_of f.counts n in
    leb m l.max_classical_bits && (leb s.branches l.max_branches && (leb n l.max_qubits
    && (leb (program_cells f.nodes s.branches s.stores s.rows) l.max_matrix_cells
    && leb (program_terms f.nodes f.counts.gates s.branches s.rows) l.max_multiply_terms)))

-- question 10: `result` and `work` are the lengths of the buffers
abbrev pub program_room : ℕ → Sizes → ℕ → ℕ → Bool
program_room N s result work = leb (result_words s.stores s.rows) result && leb (program_work N s.branches s.rows) work

-- of the words: n qubits, m classical bits, the limits l, the words of the listed nodes and of the operations
abbrev pub program_word_questions : ℕ → ℕ → Limits → List ℕ → List ℕ → List Question
program_word_questions n m l ns os =
    limits_question l
    ∷ length_question ns
    ∷ length_question os
    ∷ question 3 (few_operations n l ns os) OverLimit
    ∷ (nodes_questions n 0 (gates_of ns) ++ operations_questions (axis_fits n (nodes_of ns)) m 0 0 (gates_of os))

-- of the numbers: with the initial store σ and the lengths of the buffers
abbrev pub program_number_questions : ProgramFootprint → ℕ → ℕ → List ℕ → Limits → ℕ → ℕ → List Question
program_number_questions f n m σ l result work =
    store_question m σ
    ∷ question 8 (program_within f n m l) OverLimit
    ∷ weight_question f.counts.weight
    ∷ question 10 (program_room f.nodes (sizes_of f.counts n) result work) ShortBuffer ∷ []

module _ (n m : ℕ) (σ : List ℕ) (l : Limits) (ns os : List ℕ) (result work : ℕ) where
  abbrev pub pauli_questions : List Question
  pauli_questions = program_word_questions n m l ns os ++ program_number_questions (program_footprint n m (operations_of os)) n m σ l result work

  abbrev pub pauli_verdict : Verdict
  pauli_verdict = first_no pauli_questions
