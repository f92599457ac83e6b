-- The mask forms of nodes in an array, the form of a node at its number.
use Rattle.std.specs.Prelude.{Bool, ◌&&◌, List, [], ◌∷◌, ℕ, ltb, length}
use Rattle.pauli_nodes.specs.Nodes.{Reference, basis_from, in_order}
use Rattle.pauli_nodes.specs.Inner.Masks.{Mask, identity_mask, is_hermitian, ref_mask, mask_after}

-- those of the identity, and of X and Z of each of n qubits
abbrev pub basis_masks : ℕ → List Mask
basis_masks n = in_order (mask_after n) (basis_from n 0) (identity_mask ∷ [])

-- the identity, X and Z of five qubits, and 1,024 listed nodes
abbrev pub max_nodes : ℕ
max_nodes = 1035

-- an axis fits, told from the forms of all nodes
abbrev pub mask_fits : List Mask → Reference → Bool
mask_fits ms a = ltb a.node (length ms) && is_hermitian (ref_mask ms a)
