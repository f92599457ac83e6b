-- What holds of nodes, a type each.
use Rattle.std.specs.Prelude.{◌≡◌, ◌↔◌, true, List, [], ◌∷◌, ◌++◌, ℕ, ◌+◌, ◌*◌, ◌^◌, ◌≤◌, ◌<◌, length}
use Rattle.algebra.specs.Lists.{All}
use Rattle.algebra.specs.Sum.{times, δ}
use Rattle.exact.specs.Exact.{exact, conj}
use Rattle.gate.specs.Operators.{pauli_x, phase}
use Rattle.gate.specs.Embed.{embed}
use Rattle.gate.specs.Embedding.{Matrix, Equal, adjoint}
use Rattle.pauli_nodes.specs.Nodes.{Reference, Node, Placed, hermitian, matrix_after, node_matrices, node_matrix, axis_matrix}

-- ---- numbers of nodes
-- node 0, and X and Z of qubit q
pub record Basis (n : ℕ) (nodes : List Node) : Type 0 where
  pub identity : node_matrix n nodes 0 ≡ δ exact
  pub flip : (q : ℕ) → q < n → node_matrix n nodes (1 + 2 * q) ≡ embed exact n (q ∷ []) pauli_x
  pub sign : (q : ℕ) → q < n → node_matrix n nodes (2 + 2 * q) ≡ embed exact n (q ∷ []) (phase 4)

abbrev pub BasisNumbered : Type 0
BasisNumbered = (n : ℕ) (nodes : List Node) → Basis n nodes

-- a node listed after others has the next number
abbrev pub Numbered : Type 0
Numbered = (n : ℕ) (nodes : List Node) (x : Node) → node_matrix n (nodes ++ (x ∷ [])) (1 + 2 * n + length nodes) ≡ matrix_after n (node_matrices n nodes) x

-- and the others keep theirs
abbrev pub Kept : Type 0
Kept = (n : ℕ) (nodes : List Node) (x : Node) (k : ℕ) → k < 1 + 2 * n + length nodes → node_matrix n (nodes ++ (x ∷ [])) k ≡ node_matrix n nodes k

-- ---- axes
abbrev pub SelfAdjoint : ℕ → Matrix → Type 0
SelfAdjoint n M = Equal (2 ^ n) (adjoint conj M) M

-- the test says what it asks
abbrev pub HermitianTest : Type 0
HermitianTest = (n : ℕ) (M : Matrix) → SelfAdjoint n M ↔ (hermitian n M ≡ true)

-- the square of an axis that is its own adjoint is the identity
abbrev pub AxisSquares : Type 0
AxisSquares =
    (n : ℕ) → n ≤ 5 → (nodes : List Node) → All (Placed n) nodes → (a : Reference) → hermitian n (axis_matrix n nodes a) ≡ true
    → Equal (2 ^ n) (times exact (2 ^ n) (axis_matrix n nodes a) (axis_matrix n nodes a)) (δ exact)
