-- The questions of the nodes and of the operations of a Pauli program on n qubits, in order.
use Rattle.std.specs.Prelude.{Bool, ◌&&◌, List, [], ◌∷◌, ◌++◌, ℕ, suc, ◌+◌, ◌*◌, ltb, length}
use Rattle.algebra.specs.Lists.{every}
use Rattle.verdict.specs.declared.Refusal.TheVariants.{OperandAt, MalformedAt, BadNodeAt, BadAxisAt, NoOutcomeAt}
use Rattle.verdict.specs.Questions.{Question, question}
use Rattle.gate.specs.Gate.{Gate}
use Rattle.pauli_nodes.specs.Nodes.{Reference, Node, single, product, hermitian, axis_matrix}
use Rattle.pauli_nodes.specs.Operations.{Operation, rotate, rotate_if, measure, axis, splits}
use Rattle.pauli_words.specs.Words.{node_of, node_formed, operation_of, operation_formed}

-- the number of the listed node i
abbrev pub number_of : ℕ → ℕ → ℕ
number_of n i = 1 + 2 * n + i

-- ---- nodes
-- node k has its qubit below n, and names earlier nodes alone
abbrev pub sound : ℕ → ℕ → Node → Bool
sound n k (single q p) = ltb q n
sound n k (product a b) = ltb a.node k && ltb b.node k

abbrev pub node_questions : ℕ → ℕ → Gate → List Question
node_questions n i w = question 4 (node_formed w) (MalformedAt i) ∷ question 17 (sound n (number_of n i) (node_of w)) (BadNodeAt i) ∷ []

-- node after node; they are numbered from i on
abbrev pub nodes_questions : ℕ → ℕ → List Gate → List Question
nodes_questions n i [] = []
nodes_questions n i (w ∷ ws) = node_questions n i w ++ nodes_questions n (suc i) ws

-- ---- operations
-- an axis is there and equals its own adjoint
abbrev pub axis_fits : ℕ → List Node → Reference → Bool
axis_fits n nodes a = ltb a.node (number_of n (length nodes)) && hermitian n (axis_matrix n nodes a)

-- an outcome is one of those made so far; a bit is below m
abbrev pub operand_questions : ℕ → ℕ → ℕ → Operation → List Question
operand_questions m made i (rotate a k) = []
operand_questions m made i (rotate_if a k o) = question 19 (ltb o made) (NoOutcomeAt i) ∷ []
operand_questions m made i (measure a bs) = question 5 (every (λ (b : ℕ). ltb b m) bs) (OperandAt i) ∷ []

-- of operation i, by the test of an axis
abbrev pub operation_questions : (Reference → Bool) → ℕ → ℕ → ℕ → Gate → List Question
operation_questions fits m made i w =
    question 4 (operation_formed w) (MalformedAt i)
    ∷ question 18 (fits (axis (operation_of w))) (BadAxisAt i)
    ∷ operand_questions m made i (operation_of w)

-- operation after operation; they are numbered from i on, and `made` outcomes were made before them
abbrev pub operations_questions : (Reference → Bool) → ℕ → ℕ → ℕ → List Gate → List Question
operations_questions fits m made i [] = []
operations_questions fits m made i (w ∷ ws) =
    operation_questions fits m made i w ++ operations_questions fits m (made + splits (operation_of w)) (suc i) ws
