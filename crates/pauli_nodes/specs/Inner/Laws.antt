-- What holds of mask forms, a type each.
use Rattle.std.specs.Prelude.{◌≡◌, ◌↔◌, true, List, ℕ, ◌^◌, ◌≤◌, ◌<◌}
use Rattle.algebra.specs.Lists.{All}
use Rattle.algebra.specs.Sum.{times}
use Rattle.exact.specs.Exact.{exact}
use Rattle.gate.specs.Embedding.{Equal}
use Rattle.pauli_nodes.specs.Nodes.{Reference, Node, Placed, hermitian, node_matrix, axis_matrix}
use Rattle.pauli_nodes.specs.Claims.{SelfAdjoint}
use Rattle.pauli_nodes.specs.Inner.Masks.{Mask, mask_matrix, times_mask, is_hermitian, node_mask, axis_mask}

-- a mask form on n qubits
pub record InRange (n : ℕ) (m : Mask) : Type 0 where
  pub x_in : m.x < 2 ^ n
  pub z_in : m.z < 2 ^ n
  pub turns_in : m.turns < 4

-- the product of mask forms stands for the product of their matrices
abbrev pub ProductsOfMasks : Type 0
ProductsOfMasks = (n : ℕ) → n ≤ 5 → (a b : Mask) → InRange n a → InRange n b → Equal (2 ^ n) (times exact (2 ^ n) (mask_matrix a) (mask_matrix b)) (mask_matrix (times_mask a b))

-- the test on a mask form is true exactly of an own adjoint
abbrev pub HermitianMasks : Type 0
HermitianMasks = (n : ℕ) → n ≤ 5 → (m : Mask) → InRange n m → SelfAdjoint n (mask_matrix m) ↔ (is_hermitian m ≡ true)

-- masks stay below 2^n, and turns below 4
abbrev pub MasksInRange : Type 0
MasksInRange = (n : ℕ) → n ≤ 5 → (nodes : List Node) → All (Placed n) nodes → (k : ℕ) → InRange n (node_mask n nodes k)

-- the matrix of a node, and of a reference, is that of its mask form
abbrev pub NodesAreMasks : Type 0
NodesAreMasks = (n : ℕ) → n ≤ 5 → (nodes : List Node) → All (Placed n) nodes → (k : ℕ) → Equal (2 ^ n) (node_matrix n nodes k) (mask_matrix (node_mask n nodes k))

abbrev pub AxesAreMasks : Type 0
AxesAreMasks = (n : ℕ) → n ≤ 5 → (nodes : List Node) → All (Placed n) nodes → (a : Reference) → Equal (2 ^ n) (axis_matrix n nodes a) (mask_matrix (axis_mask n nodes a))

-- whether an axis equals its own adjoint, asked of its mask form
abbrev pub AxisTest : Type 0
AxisTest = (n : ℕ) → n ≤ 5 → (nodes : List Node) → All (Placed n) nodes → (a : Reference) → hermitian n (axis_matrix n nodes a) ≡ is_hermitian (axis_mask n nodes a)
