-- The weights of a program's operators: entries of axes weigh nothing, and those of rotations and projectors what their coefficients do.
use mathlib.Core.Path.{◌≡◌, refl, subst}
use mathlib.Core.Bool.{Bool, true, false, cond}
use mathlib.Core.List.{List, [], ◌∷◌, ◌++◌}
use Prim.Native.Nat.{ℕ, zero, suc, ◌+◌, ◌%◌, ◌^◌}
use native.Mathlib.Omega.{arith}
use lib.Dec.{eqb}
use lib.ListN.{get_or}
use lib.IntN.{pos}
use Rattle.algebra.specs.Quadratic.{pair}
use Rattle.algebra.specs.Sum.{sum, δ}
use Rattle.algebra.specs.Lists.{All}
use Rattle.algebra.proofs.Lists.{all_append}
use Rattle.exact.specs.Exact.{Exact, exact, imaginary, power_of}
use Rattle.gate.specs.Gate.{gate}
use Rattle.gate.specs.Operators.{one, none}
use Rattle.gate.specs.Embedding.{Matrix}
use Rattle.kraus.proofs.Weigh.{Light, embed-part}
use Rattle.kraus.proofs.Weights.{graded, weighs}
use Rattle.pauli_nodes.specs.Nodes.{Reference, Node, single, product, turned, pauli, basis_from, in_order, ref_matrix, matrix_after, node_matrices, axis_matrix}
use Rattle.pauli_program.specs.Operators.{Coefficients, mixed}

-- each entry is z / √2^w with z in ℤ[ω]
abbrev pub Weighs : ℕ → Matrix → Type 0
Weighs w M = (r c : ℕ) → graded.Part w (M r c)

one-part : graded.Part 0 one
one-part = (pair (pair (pos 1) (pos 0)) (pair (pos 0) (pos 0)), refl)

δ-part : Weighs 0 (δ exact)
δ-part r c = go (eqb r c)
  where
    go : (b : Bool) → graded.Part 0 (cond b one none)
    go true = one-part
    go false = graded.zero 0

turned-part : (k : ℕ) → graded.Part 0 (turned k)
turned-part k = go (k % 4)
  where
    go : (k : ℕ) → graded.Part 0 (power_of imaginary k)
    go zero = one-part
    go (suc k) = graded.mul 0 0 (power_of imaginary k) imaginary (go k) (pair (pair (pos 0) (pos 1)) (pair (pos 0) (pos 0)), refl)

-- x, y and z are gates of weight 0
pauli_light : (p : ℕ) → Light graded 0 (pauli p)
pauli_light zero = (weighs (gate 7 0 0 0 0)).0
pauli_light (suc zero) = (weighs (gate 1 0 0 0 0)).0
pauli_light (suc (suc zero)) = (weighs (gate 15 0 0 0 0)).0
pauli_light (suc (suc (suc zero))) = (weighs (gate 2 0 0 0 0)).0
pauli_light (suc (suc (suc (suc p)))) = (weighs (gate 7 0 0 0 0)).0

sum-part : (w m : ℕ) (f : ℕ → Exact) → ((k : ℕ) → graded.Part w (f k)) → graded.Part w (sum exact m f)
sum-part w zero f h = graded.zero w
sum-part w (suc m) f h = graded.add w (sum exact m f) (f m) (sum-part w m f h) (h m)

at : (vs : List Matrix) → All (Weighs 0) vs → (i : ℕ) → Weighs 0 (get_or vs i (δ exact))
at [] h i = δ-part
at (v ∷ vs) h zero = h.0
at (v ∷ vs) h (suc i) = at vs h.1 i

module _ (n : ℕ) where
  ref_part : (vs : List Matrix) → All (Weighs 0) vs → (a : Reference) → Weighs 0 (ref_matrix n vs a)
  ref_part vs h a r c = graded.mul 0 0 (turned a.turns) (get_or vs a.node (δ exact) r c) (turned-part a.turns) (at vs h a.node r c)

  node_part : (vs : List Matrix) → All (Weighs 0) vs → (x : Node) → Weighs 0 (matrix_after n vs x)
  node_part vs h (single q p) r c = embed-part graded n 0 (q ∷ []) (pauli p) (pauli_light p) r c
  node_part vs h (product a b) r c = sum-part 0 (2 ^ n) _ (λ k. graded.mul 0 0 (ref_matrix n vs a r k) (ref_matrix n vs b k c) (ref_part vs h a r k) (ref_part vs h b k c))

  all-part : (xs : List Node) (vs : List Matrix) → All (Weighs 0) vs → All (Weighs 0) (in_order (matrix_after n) xs vs)
  all-part [] vs h = h
  all-part (x ∷ xs) vs h = all-part xs (vs ++ (matrix_after n vs x ∷ [])) (all_append (Weighs 0) vs (matrix_after n vs x ∷ []) h (node_part vs h x, tt))

  pub axis-part : (nodes : List Node) (a : Reference) → Weighs 0 (axis_matrix n nodes a)
  axis-part nodes = ref_part (node_matrices n nodes) (all-part (basis_from n 0 ++ nodes) (δ exact ∷ []) (δ-part, tt))

-- coefficients of weight w
pub mixed-part : (w : ℕ) (f : Coefficients) (A : Matrix) → Weighs 0 A → graded.Part w f.own → graded.Part w f.other → Weighs w (mixed f A)
mixed-part w f A h a b r c =
    let e : w + 0 ≡ w = omega arith in
    graded.add w (exact.◌⊗◌ f.own (δ exact r c)) (exact.◌⊗◌ f.other (A r c))
    (subst (λ (u : ℕ). graded.Part u (exact.◌⊗◌ f.own (δ exact r c))) e (graded.mul w 0 f.own (δ exact r c) a (δ-part r c)))
    (subst (λ (u : ℕ). graded.Part u (exact.◌⊗◌ f.other (A r c))) e (graded.mul w 0 f.other (A r c) b (h r c)))
