-- The nodes of a Pauli program on n qubits, and their matrices. Node 0 is the identity, nodes 1 + 2q and 2 + 2q are X and Z of qubit q,
-- and the listed nodes are numbered on from these: each is a Pauli of one qubit, or the product of two earlier references.
use Rattle.std.specs.Prelude.{Bool, List, [], ◌∷◌, ◌++◌, ℕ, zero, suc, ◌%◌, ◌^◌, ◌<◌, get_or}
use Rattle.algebra.specs.Lists.{all_below}
use Rattle.algebra.specs.Sum.{times, δ}
use Rattle.exact.specs.Exact.{Exact, exact, conj, equal, imaginary, power_of}
use Rattle.gate.specs.Operators.{Small, pauli_x, pauli_y, phase}
use Rattle.gate.specs.Embed.{embed}
use Rattle.gate.specs.Embedding.{Matrix, adjoint}

-- a node's number, and the power of i before it: 0, 1, 2, 3 for 1, i, −1, −i
pub record Reference : Type 0 where
  pub node : ℕ
  pub turns : ℕ

abbrev pub reference : ℕ → ℕ → Reference
reference k t = record { node = k; turns = t }

-- a Pauli of a qubit: 0 the identity, 1 X, 2 Y, 3 Z; or a product
pub data Node : Type 0 where
  single : ℕ → ℕ → Node
  product : Reference → Reference → Node

-- i to the power k
abbrev pub turned : ℕ → Exact
turned k = power_of imaginary (k % 4)

abbrev pub pauli : ℕ → Small
pauli p = get_or (phase 0 ∷ pauli_x ∷ pauli_y ∷ phase 4 ∷ []) p (phase 0)

-- X and Z of m qubits, from qubit q on
abbrev pub basis_from : ℕ → ℕ → List Node
basis_from zero q = []
basis_from (suc m) q = single q 1 ∷ single q 3 ∷ basis_from m (suc q)

-- after the values vs, the value of each node, found from those before it
abbrev pub in_order : {A : Type 0} → (List A → Node → A) → List Node → List A → List A
in_order f [] vs = vs
in_order f (x ∷ xs) vs = in_order f xs (vs ++ (f vs x ∷ []))

-- a node's qubit, where it names one, is below n
abbrev pub Placed : ℕ → Node → Type 0
Placed n (single q p) = q < n
Placed n (product a b) = Unit {0}

-- M equals its own adjoint, on n qubits
abbrev pub hermitian : ℕ → Matrix → Bool
hermitian n M = all_below (2 ^ n) (λ (r : ℕ). all_below (2 ^ n) (λ (c : ℕ). equal (adjoint conj M r c) (M r c)))

module _ (n : ℕ) where
  -- a reference and a node, given the matrices of the nodes before; a number that none of these has reads as the identity, and is refused by its own question
  abbrev pub ref_matrix : List Matrix → Reference → Matrix
  ref_matrix vs a r c = exact.◌⊗◌ (turned a.turns) (get_or vs a.node (δ exact) r c)

  abbrev pub matrix_after : List Matrix → Node → Matrix
  matrix_after vs (single q p) = embed exact n (q ∷ []) (pauli p)
  matrix_after vs (product a b) = times exact (2 ^ n) (ref_matrix vs a) (ref_matrix vs b)

  -- the matrices of all nodes, in the order of their numbers
  abbrev pub node_matrices : List Node → List Matrix
  node_matrices nodes = in_order matrix_after (basis_from n 0 ++ nodes) (δ exact ∷ [])

  -- node k, and a reference
  abbrev pub node_matrix : List Node → ℕ → Matrix
  node_matrix nodes k = get_or (node_matrices nodes) k (δ exact)

  abbrev pub axis_matrix : List Node → Reference → Matrix
  axis_matrix nodes a = ref_matrix (node_matrices nodes) a
