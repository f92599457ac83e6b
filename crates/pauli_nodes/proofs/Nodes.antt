-- Nodes and references have the matrices of their mask forms, in order from node 0 on; so an axis is its own adjoint exactly where the test on its mask form says so.
use mathlib.Core.Path.{◌≡◌, sym, ap, ap₂, ◌∙◌}
use mathlib.Core.Logic.{◌↔◌}
use mathlib.Core.Bool.{Bool, true, false, cond}
use mathlib.Core.List.{List, [], ◌∷◌, ◌++◌}
use Prim.Native.Nat.{ℕ, zero, suc, ◌+◌, ◌-◌, ◌*◌, ◌/◌, ◌%◌, ◌^◌, ◌≤◌, ◌<◌}
use native.Mathlib.Nat.{mod-lt}
use native.Mathlib.Omega.{arith}
use lib.Bits.{bit_and, bit_xor, xor_lt, xor_self, xor_zero_r, and_zero_l}
use lib.Dec.{eqb}
use lib.ListN.{get_or}
use lib.Pow.{pow_pos, pow-lt}
use borrow.Author.Tests.{eqb-true}
use Rattle.algebra.specs.Lists.{All}
use Rattle.algebra.specs.Sum.{δ, times}
use Rattle.algebra.proofs.Sum.{times-same}
use Rattle.algebra.proofs.Tests.{test_same}
use Rattle.exact.specs.Exact.{exact, conj}
use Rattle.exact.proofs.Exact.{exacts}
use Rattle.gate.specs.Operators.{none}
use Rattle.gate.specs.Embedding.{Matrix, Equal}
use Rattle.pauli_nodes.specs.Nodes.{Reference, Node, single, product, turned, basis_from, in_order, Placed, hermitian, ref_matrix, matrix_after, node_matrices, node_matrix, axis_matrix}
use Rattle.pauli_nodes.specs.Inner.Masks.{Mask, mask, parity, mask_matrix, identity_mask, pauli_mask, turn_mask, times_mask, is_hermitian, ref_mask, mask_after, node_masks, node_mask, axis_mask}
use Rattle.pauli_nodes.specs.Claims.{SelfAdjoint, AxisSquares}
use Rattle.pauli_nodes.specs.Inner.Laws.{InRange, MasksInRange, NodesAreMasks, AxesAreMasks, AxisTest}
use Rattle.pauli_nodes.proofs.Turns.{same4, turned_same, turned-mul}
use Rattle.pauli_nodes.proofs.Products.{products-of_masks}
use Rattle.pauli_nodes.proofs.Hermitian.{hermitian_test, hermitian_masks}
use Rattle.pauli_nodes.proofs.Singles.{single_is}

module _ (n : ℕ) (few : n ≤ 5) where
  -- a matrix and the mask form that stands for it
  record Fits (v : Matrix) (m : Mask) : Type 0 where
    pub range : InRange n m
    pub same : Equal (2 ^ n) v (mask_matrix m)

  abbrev Pairs : List Matrix → List Mask → Type 0
  Pairs [] [] = Unit {0}
  Pairs [] (m ∷ ms) = ⊥
  Pairs (v ∷ vs) [] = ⊥
  Pairs (v ∷ vs) (m ∷ ms) = Fits v m × Pairs vs ms

  identity-fits : Fits (δ exact) identity_mask
  identity-fits = record {
    range = record { x_in = pow_pos n; z_in = pow_pos n; turns_in = omega arith };
    same = λ r c hr hc. ap₂ (λ (x y : ℕ). cond (eqb r x) (turned (0 + 2 * parity y)) none) (sym (xor_zero_r c)) (sym (and_zero_l c));
  }

  turn-fits : (k : ℕ) (v : Matrix) (m : Mask) → Fits v m → Fits (λ (r c : ℕ). exact.◌⊗◌ (turned k) (v r c)) (turn_mask k m)
  turn-fits k v m f = record {
    range = record { x_in = f.range.x_in; z_in = f.range.z_in; turns_in = mod-lt (k + m.turns) (omega arith) };
    same = λ r c hr hc. ap (exact.◌⊗◌ (turned k)) (f.same r c hr hc) ∙ go c (eqb r (bit_xor c m.x));
  }
    where
      sums : (p : ℕ) → (k + (m.turns + 2 * p)) % 4 ≡ ((k + m.turns) % 4 + 2 * p) % 4
      sums p = same4 (k + (m.turns + 2 * p)) ((k + m.turns) % 4 + 2 * p) 0 ((k + m.turns) / 4) (omega arith)

      go : (c : ℕ) (b : Bool) → exact.◌⊗◌ (turned k) (cond b (turned (m.turns + 2 * parity (bit_and m.z c))) none) ≡ cond b (turned ((k + m.turns) % 4 + 2 * parity (bit_and m.z c))) none
      go c true = turned-mul k (m.turns + 2 * parity (bit_and m.z c)) ∙ turned_same _ _ (sums (parity (bit_and m.z c)))
      go c false = exacts.mul_zero (turned k)

  times-fits : (v w : Matrix) (a b : Mask) → Fits v a → Fits w b → Fits (times exact (2 ^ n) v w) (times_mask a b)
  times-fits v w a b f g = record {
    range = record {
      x_in = xor_lt n a.x b.x f.range.x_in g.range.x_in;
      z_in = xor_lt n a.z b.z f.range.z_in g.range.z_in;
      turns_in = mod-lt (a.turns + b.turns + 2 * parity (bit_and a.z b.x)) (omega arith);
    };
    same = λ r c hr hc.
        times-same exacts (2 ^ n) v (mask_matrix a) w (mask_matrix b) r c (λ k l. f.same r k hr l) (λ k l. g.same k c l hc)
        ∙ products-of_masks n few a b f.range g.range r c hr hc;
  }

  single-range : (q p : ℕ) → q < n → InRange n (pauli_mask (2 ^ (n - 1 - q)) p)
  single-range q p l = go p
    where
      weight : 2 ^ (n - 1 - q) < 2 ^ n
      weight = pow-lt {i = n - 1 - q} {j = n} (omega arith)

      go : (p : ℕ) → InRange n (pauli_mask (2 ^ (n - 1 - q)) p)
      go zero = identity-fits.range
      go (suc zero) = record { x_in = weight; z_in = pow_pos n; turns_in = omega arith }
      go (suc (suc zero)) = record { x_in = weight; z_in = weight; turns_in = omega arith }
      go (suc (suc (suc zero))) = record { x_in = pow_pos n; z_in = weight; turns_in = omega arith }
      go (suc (suc (suc (suc p)))) = identity-fits.range

  pairs-at : (vs : List Matrix) (ms : List Mask) → Pairs vs ms → (k : ℕ) → Fits (get_or vs k (δ exact)) (get_or ms k identity_mask)
  pairs-at [] [] h k = identity-fits
  pairs-at [] (m ∷ ms) h k = absurd h
  pairs-at (v ∷ vs) [] h k = absurd h
  pairs-at (v ∷ vs) (m ∷ ms) h zero = h.0
  pairs-at (v ∷ vs) (m ∷ ms) h (suc k) = pairs-at vs ms h.1 k

  pairs-after : (vs : List Matrix) (ms : List Mask) (v : Matrix) (m : Mask) → Pairs vs ms → Fits v m → Pairs (vs ++ (v ∷ [])) (ms ++ (m ∷ []))
  pairs-after [] [] v m h f = (f, tt)
  pairs-after [] (y ∷ ms) v m h f = absurd h
  pairs-after (x ∷ vs) [] v m h f = absurd h
  pairs-after (x ∷ vs) (y ∷ ms) v m h f = (h.0, pairs-after vs ms v m h.1 f)

  ref_fits : (vs : List Matrix) (ms : List Mask) → Pairs vs ms → (a : Reference) → Fits (ref_matrix n vs a) (ref_mask ms a)
  ref_fits vs ms h a = turn-fits a.turns (get_or vs a.node (δ exact)) (get_or ms a.node identity_mask) (pairs-at vs ms h a.node)

  node_fits : (vs : List Matrix) (ms : List Mask) → Pairs vs ms → (x : Node) → Placed n x → Fits (matrix_after n vs x) (mask_after n ms x)
  node_fits vs ms h (single q p) l = record { range = single-range q p l; same = single_is n q few l p }
  node_fits vs ms h (product a b) l = times-fits (ref_matrix n vs a) (ref_matrix n vs b) (ref_mask ms a) (ref_mask ms b) (ref_fits vs ms h a) (ref_fits vs ms h b)

  in_order_lem : (xs : List Node) → All (Placed n) xs → (vs : List Matrix) (ms : List Mask) → Pairs vs ms → Pairs (in_order (matrix_after n) xs vs) (in_order (mask_after n) xs ms)
  in_order_lem [] on vs ms h = h
  in_order_lem (x ∷ xs) on vs ms h =
      in_order_lem xs on.1 (vs ++ (matrix_after n vs x ∷ [])) (ms ++ (mask_after n ms x ∷ []))
      (pairs-after vs ms (matrix_after n vs x) (mask_after n ms x) h (node_fits vs ms h x on.0))

  basis-placed : (m q : ℕ) → q + m ≤ n → (xs : List Node) → All (Placed n) xs → All (Placed n) (basis_from m q ++ xs)
  basis-placed zero q l xs on = on
  basis-placed (suc m) q l xs on = (omega arith, (omega arith, basis-placed m (suc q) (omega arith) xs on))

  module _ (nodes : List Node) (on : All (Placed n) nodes) where
    pairs : Pairs (node_matrices n nodes) (node_masks n nodes)
    pairs = in_order_lem (basis_from n 0 ++ nodes) (basis-placed n 0 (omega arith) nodes on) (δ exact ∷ []) (identity_mask ∷ []) (identity-fits, tt)

    at_node : (k : ℕ) → Fits (node_matrix n nodes k) (node_mask n nodes k)
    at_node = pairs-at (node_matrices n nodes) (node_masks n nodes) pairs

    at-axis : (a : Reference) → Fits (axis_matrix n nodes a) (axis_mask n nodes a)
    at-axis = ref_fits (node_matrices n nodes) (node_masks n nodes) pairs

pub masks_in-range : MasksInRange
masks_in-range n few nodes on k = (at_node n few nodes on k).range

pub nodes_are_masks : NodesAreMasks
nodes_are_masks n few nodes on k = (at_node n few nodes on k).same

pub axes_are_masks : AxesAreMasks
axes_are_masks n few nodes on a = (at-axis n few nodes on a).same

pub axis_test : AxisTest
axis_test n few nodes on a = test_same (hermitian n (axis_matrix n nodes a)) (is_hermitian (axis_mask n nodes a))
    (λ e. test.0 (λ r c hr hc. ap conj (sym (same c r hc hr)) ∙ asked.1 e r c hr hc ∙ same r c hr hc))
    (λ e. asked.0 (λ r c hr hc. ap conj (same c r hc hr) ∙ test.1 e r c hr hc ∙ sym (same r c hr hc)))
  where
    same : Equal (2 ^ n) (axis_matrix n nodes a) (mask_matrix (axis_mask n nodes a))
    same = (at-axis n few nodes on a).same

    test : SelfAdjoint n (mask_matrix (axis_mask n nodes a)) ↔ (is_hermitian (axis_mask n nodes a) ≡ true)
    test = hermitian_masks n few (axis_mask n nodes a) (at-axis n few nodes on a).range

    asked : SelfAdjoint n (axis_matrix n nodes a) ↔ (hermitian n (axis_matrix n nodes a) ≡ true)
    asked = hermitian_test n (axis_matrix n nodes a)

-- the square of a mask form that passes the test
squares : (t v : ℕ) → (t + v) % 2 ≡ 0 → (t + t + 2 * v) % 4 ≡ 0
squares t v e = same4 (t + t + 2 * v) 0 0 ((t + v) / 2) (omega arith)

square_mask : (m : Mask) → is_hermitian m ≡ true → times_mask m m ≡ identity_mask
square_mask m h =
    ap₂ (λ (x z : ℕ). mask x z ((m.turns + m.turns + 2 * parity (bit_and m.z m.x)) % 4)) (xor_self m.x) (xor_self m.z)
    ∙ ap (mask 0 0) (squares m.turns (parity (bit_and m.z m.x)) (eqb-true ((m.turns + parity (bit_and m.z m.x)) % 2) 0 h))

pub axis-squares : AxisSquares
axis-squares n few nodes on a h r c hr hc =
    let f = at-axis n few nodes on a in
    (times-fits n few (axis_matrix n nodes a) (axis_matrix n nodes a) (axis_mask n nodes a) (axis_mask n nodes a) f f).same r c hr hc
    ∙ ap (λ (m : Mask). mask_matrix m r c) (square_mask (axis_mask n nodes a) (sym (axis_test n few nodes on a) ∙ h)) ∙ sym ((identity-fits n few).same r c hr hc)
