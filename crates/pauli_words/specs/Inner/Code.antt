-- What the code's structs and enums stand for, and what five words are read as.
use Rattle.std.specs.Prelude.{◌≡◌, Bool, true, false, ℕ, ◌≤◌, Option, Result, Ok, Err, MatchOption, MatchResult, option_to_list}
use Rattle.verdict.specs.declared.Refusal.{Refusal}
use Rattle.verdict.specs.Questions.{first_no}
use Rattle.gate.specs.Gate.{Gate}
use Rattle.pauli_nodes.specs.Nodes.{Reference, reference, Node, single, product}
use Rattle.pauli_nodes.specs.Operations.{Operation, rotate, rotate_if, measure}
use Rattle.pauli_words.specs.Words.{node_of, node_formed, operation_of, operation_formed}
use Rattle.pauli_words.specs.Questions.{number_of, sound, node_questions, operation_questions}
use Rattle.pauli_words.specs.declared.nodes.Pauli.{Pauli}
use Rattle.pauli_words.specs.declared.nodes.Pauli.TheVariants.{I, X, Y, Z}
use Rattle.pauli_words.specs.declared.nodes.NoPauli.{NoPauli}
use Rattle.pauli_words.specs.declared.nodes.Reference as reference_code
use Rattle.pauli_words.specs.declared.nodes.Node as node_code
use Rattle.pauli_words.specs.declared.nodes.Node.TheVariants.{Single, Product}
use Rattle.pauli_words.specs.declared.operations.Operation as operation_code
use Rattle.pauli_words.specs.declared.operations.Operation.TheVariants.{Rotate, RotateIf, Measure}

-- the number of a Pauli of one qubit
abbrev pub letter : Pauli → ℕ
letter I = 0
letter X = 1
letter Y = 2
letter Z = 3

abbrev pub reference_in : reference_code.Reference → Reference
reference_in a = reference a.node a.turns

abbrev pub node_in : node_code.Node → Node
node_in (Single q p) = single q (letter p)
node_in (Product a b) = product (reference_in a) (reference_in b)

abbrev pub operation_in : operation_code.Operation → Operation
operation_in (Rotate a k) = rotate (reference_in a) k
operation_in (RotateIf a k o) = rotate_if (reference_in a) k o
operation_in (Measure a b) = measure (reference_in a) (option_to_list b)

-- ---- what is read
-- the Pauli with this number, or none where no Pauli has it
abbrev pub Numbered : ℕ → Result Pauli NoPauli → Type 0
Numbered k r = MatchResult r (λ p. letter p ≡ k) (λ e. 4 ≤ k)

-- the node of well-formed words
abbrev pub ReadNode : Gate → Option node_code.Node → Type 0
ReadNode w r = MatchOption r (node_formed w ≡ false) (λ x. (node_formed w ≡ true) × (node_in x ≡ node_of w))

abbrev pub ReadOperation : Gate → Option operation_code.Operation → Type 0
ReadOperation w r = MatchOption r (operation_formed w ≡ false) (λ o. (operation_formed w ≡ true) × (operation_in o ≡ operation_of w))

-- node i, where it passes its questions, or the first refusal
abbrev pub JudgedNode : ℕ → ℕ → Gate → Result node_code.Node Refusal → Type 0
JudgedNode n i w r =
    MatchResult r (λ x. (Ok tt ≡ first_no (node_questions n i w)) × (node_in x ≡ node_of w) × (sound n (number_of n i) (node_of w) ≡ true)) (λ e. Err e ≡ first_no (node_questions n i w))

-- operation i after `made` outcomes, likewise
abbrev pub JudgedOperation : (Reference → Bool) → ℕ → ℕ → ℕ → Gate → Result operation_code.Operation Refusal → Type 0
JudgedOperation fits m made i w r =
    MatchResult r (λ o. (Ok tt ≡ first_no (operation_questions fits m made i w)) × (operation_in o ≡ operation_of w)) (λ e. Err e ≡ first_no (operation_questions fits m made i w))
