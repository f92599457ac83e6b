-- The mask form of a node on at most 5 qubits: which qubits it flips, which it signs, and a power of i. Qubit q has the bit of weight 2^(n − 1 − q).
use Rattle.std.specs.Prelude.{Bool, cond, List, [], ◌∷◌, ◌++◌, ℕ, ◌+◌, ◌-◌, ◌*◌, ◌/◌, ◌%◌, ◌^◌, eqb, get_or}
use Rattle.std.specs.Int.Bits.{bit_and, bit_xor}
use Rattle.gate.specs.Operators.{none}
use Rattle.gate.specs.Embedding.{Matrix}
use Rattle.pauli_nodes.specs.Nodes.{Reference, Node, single, product, turned, basis_from, in_order}

pub record Mask : Type 0 where
  pub x : ℕ
  pub z : ℕ
  pub turns : ℕ

abbrev pub mask : ℕ → ℕ → ℕ → Mask
mask x z turns = record { x = x; z = z; turns = turns }

-- how many of five bits are 1, modulo 2
abbrev pub parity : ℕ → ℕ
parity m = (m + m / 2 + m / 4 + m / 8 + m / 16) % 2

-- the matrix that a mask form stands for: i^turns · (−1)^|z ∧ c| where r = c xor x, and 0 elsewhere
abbrev pub mask_matrix : Mask → Matrix
mask_matrix m r c = cond (eqb r (bit_xor c m.x)) (turned (m.turns + 2 * parity (bit_and m.z c))) none

abbrev pub identity_mask : Mask
identity_mask = mask 0 0 0

-- the Paulis of the qubit of weight w: 0 the identity, 1 X, 2 Y, 3 Z
abbrev pub pauli_mask : ℕ → ℕ → Mask
pauli_mask w p = get_or (identity_mask ∷ mask w 0 0 ∷ mask w w 1 ∷ mask 0 w 0 ∷ []) p identity_mask

abbrev pub turn_mask : ℕ → Mask → Mask
turn_mask k m = mask m.x m.z ((k + m.turns) % 4)

abbrev pub times_mask : Mask → Mask → Mask
times_mask a b = mask (bit_xor a.x b.x) (bit_xor a.z b.z) ((a.turns + b.turns + 2 * parity (bit_and a.z b.x)) % 4)

-- is it its own adjoint?
abbrev pub is_hermitian : Mask → Bool
is_hermitian m = eqb ((m.turns + parity (bit_and m.z m.x)) % 2) 0

-- ---- of nodes and references
abbrev pub ref_mask : List Mask → Reference → Mask
ref_mask ms a = turn_mask a.turns (get_or ms a.node identity_mask)

module _ (n : ℕ) where
  abbrev pub mask_after : List Mask → Node → Mask
  mask_after ms (single q p) = pauli_mask (2 ^ (n - 1 - q)) p
  mask_after ms (product a b) = times_mask (ref_mask ms a) (ref_mask ms b)

  abbrev pub node_masks : List Node → List Mask
  node_masks nodes = in_order mask_after (basis_from n 0 ++ nodes) (identity_mask ∷ [])

  abbrev pub node_mask : List Node → ℕ → Mask
  node_mask nodes k = get_or (node_masks nodes) k identity_mask

  abbrev pub axis_mask : List Node → Reference → Mask
  axis_mask nodes a = ref_mask (node_masks nodes) a
