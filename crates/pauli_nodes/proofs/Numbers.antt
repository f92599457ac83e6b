-- The numbers of nodes: values found in order keep their places, and each node's value has the next.
use mathlib.Core.Path.{◌≡◌, refl, sym, ap, ◌∙◌}
use mathlib.Core.List.{List, [], ◌∷◌, ◌++◌}
use Prim.Native.Nat.{ℕ, zero, suc, ◌+◌, ◌*◌, ◌<◌}
use native.Mathlib.Omega.{arith}
use lib.ListN.{length, get_or, length-append, get_or-append}
use Rattle.algebra.specs.Sum.{δ}
use Rattle.exact.specs.Exact.{exact}
use Rattle.gate.specs.Embed.{embed}
use Rattle.gate.specs.Embedding.{Matrix}
use Rattle.pauli_nodes.specs.Nodes.{Node, single, pauli, basis_from, in_order, matrix_after, node_matrices}
use Rattle.pauli_nodes.specs.Claims.{BasisNumbered, Numbered, Kept}

module _ {A : Type 0} (f : List A → Node → A) where
  pub in_turn : (xs ys : List Node) (vs : List A) → in_order f (xs ++ ys) vs ≡ in_order f ys (in_order f xs vs)
  in_turn [] ys vs = refl
  in_turn (x ∷ xs) ys vs = in_turn xs ys (vs ++ (f vs x ∷ []))

  one_more : (vs : List A) (a : A) → length (vs ++ (a ∷ [])) ≡ suc (length vs)
  one_more vs a = length-append vs (a ∷ []) ∙ omega arith

  counted : (xs : List Node) (vs : List A) → length (in_order f xs vs) ≡ length vs + length xs
  counted [] vs = omega arith
  counted (x ∷ xs) vs = omega (arith, counted xs (vs ++ (f vs x ∷ [])), one_more vs (f vs x))

  stays : (xs : List Node) (vs : List A) (d : A) (k : ℕ) → k < length vs → get_or (in_order f xs vs) k d ≡ get_or vs k d
  stays [] vs d k l = refl
  stays (x ∷ xs) vs d k l = stays xs (vs ++ (f vs x ∷ [])) d k (omega (arith, one_more vs (f vs x))) ∙ get_or-append vs (f vs x ∷ []) d k l

  last : (vs : List A) (a d : A) → get_or (vs ++ (a ∷ [])) (length vs) d ≡ a
  last [] a d = refl
  last (v ∷ vs) a d = last vs a d

  next : (bs xs : List Node) (x : Node) (vs : List A) → in_order f (bs ++ (xs ++ (x ∷ []))) vs ≡ in_order f (bs ++ xs) vs ++ (f (in_order f (bs ++ xs) vs) x ∷ [])
  next bs xs x vs =
      in_turn bs (xs ++ (x ∷ [])) vs ∙ in_turn xs (x ∷ []) (in_order f bs vs)
      ∙ ap (λ (ws : List A). ws ++ (f ws x ∷ [])) (sym (in_turn bs xs vs))

  -- the first value put after vs
  first : (x : Node) (xs : List Node) (vs : List A) (d : A) → get_or (in_order f (x ∷ xs) vs) (length vs) d ≡ f vs x
  first x xs vs d = stays xs (vs ++ (f vs x ∷ [])) d (length vs) (omega (arith, one_more vs (f vs x))) ∙ last vs (f vs x) d

  -- a Pauli of one qubit, whatever comes before
  module _ (g : ℕ → ℕ → A) (own : (vs : List A) (q p : ℕ) → f vs (single q p) ≡ g q p) (d : A) (xs : List Node) where
    basis-at : (m q : ℕ) (vs : List A) (j : ℕ) → j < m
        → (get_or (in_order f (basis_from m q ++ xs) vs) (length vs + 2 * j) d ≡ g (q + j) 1) × (get_or (in_order f (basis_from m q ++ xs) vs) (length vs + 2 * j + 1) d ≡ g (q + j) 3)
    basis-at zero q vs j l = absurd (omega arith)
    basis-at (suc m) q vs zero l =
        let us = vs ++ (f vs (single q 1) ∷ []) in
        let a : length vs + 2 * 0 ≡ length vs = omega arith in
        let b : length vs + 2 * 0 + 1 ≡ length (vs ++ (f vs (single q 1) ∷ [])) = omega (arith, one_more vs (f vs (single q 1))) in
        let z : q ≡ q + 0 = omega arith in (
          ap (λ (k : ℕ). get_or (in_order f (basis_from (suc m) q ++ xs) vs) k d) a ∙ first (single q 1) (single q 3 ∷ (basis_from m (suc q) ++ xs)) vs d ∙ own vs q 1 ∙ ap (λ (k : ℕ). g k 1) z,
          ap (λ (k : ℕ). get_or (in_order f (basis_from (suc m) q ++ xs) vs) k d) b ∙ first (single q 3) (basis_from m (suc q) ++ xs) us d ∙ own us q 3 ∙ ap (λ (k : ℕ). g k 3) z,
        )
    basis-at (suc m) q vs (suc j) l =
        let us = vs ++ (f vs (single q 1) ∷ []) in
        let ws = us ++ (f us (single q 3) ∷ []) in
        let a : length vs + 2 * suc j ≡ length ws + 2 * j = omega (arith, one_more vs (f vs (single q 1)), one_more us (f us (single q 3))) in
        let z : suc q + j ≡ q + suc j = omega arith in
        let r = basis-at m (suc q) ws j (omega arith) in (
          ap (λ (k : ℕ). get_or (in_order f (basis_from (suc m) q ++ xs) vs) k d) a ∙ r.0 ∙ ap (λ (k : ℕ). g k 1) z,
          ap (λ (k : ℕ). get_or (in_order f (basis_from (suc m) q ++ xs) vs) (k + 1) d) a ∙ r.1 ∙ ap (λ (k : ℕ). g k 3) z,
        )

basis-count : (m q : ℕ) (xs : List Node) → length (basis_from m q ++ xs) ≡ 2 * m + length xs
basis-count zero q xs = omega arith
basis-count (suc m) q xs = omega (arith, basis-count m (suc q) xs)

pub basis_numbered : BasisNumbered
basis_numbered n nodes = record {
  identity = stays (matrix_after n) (basis_from n 0 ++ nodes) (δ exact ∷ []) (δ exact) 0 (omega arith);
  flip = λ q l. (found q l).0 ∙ ap (λ (k : ℕ). embed exact n (k ∷ []) (pauli 1)) {x = 0 + q} {y = q} (omega arith);
  sign = λ q l. ap (λ (k : ℕ). get_or (node_matrices n nodes) k (δ exact)) {x = 2 + 2 * q} {y = 1 + 2 * q + 1} (omega arith) ∙ (found q l).1 ∙ ap (λ (k : ℕ). embed exact n (k ∷ []) (pauli 3)) {x = 0 + q} {y = q} (omega arith);
}
  where
    found : (q : ℕ) → q < n → (get_or (node_matrices n nodes) (1 + 2 * q) (δ exact) ≡ embed exact n ((0 + q) ∷ []) (pauli 1)) × (get_or (node_matrices n nodes) (1 + 2 * q + 1) (δ exact) ≡ embed exact n ((0 + q) ∷ []) (pauli 3))
    found q l = basis-at (matrix_after n) (λ (q p : ℕ). embed exact n (q ∷ []) (pauli p)) (λ vs q p. refl) (δ exact) nodes n 0 (δ exact ∷ []) q l

module _ (n : ℕ) (nodes : List Node) where
  places : length (node_matrices n nodes) ≡ 1 + 2 * n + length nodes
  places = omega (arith, counted (matrix_after n) (basis_from n 0 ++ nodes) (δ exact ∷ []), basis-count n 0 nodes)

  one_listed : (x : Node) → node_matrices n (nodes ++ (x ∷ [])) ≡ node_matrices n nodes ++ (matrix_after n (node_matrices n nodes) x ∷ [])
  one_listed x = next (matrix_after n) (basis_from n 0) nodes x (δ exact ∷ [])

pub numbered : Numbered
numbered n nodes x =
    ap (λ (vs : List Matrix). get_or vs (1 + 2 * n + length nodes) (δ exact)) (one_listed n nodes x)
    ∙ ap (λ (k : ℕ). get_or (node_matrices n nodes ++ (matrix_after n (node_matrices n nodes) x ∷ [])) k (δ exact)) (sym (places n nodes))
    ∙ last (matrix_after n) (node_matrices n nodes) (matrix_after n (node_matrices n nodes) x) (δ exact)

pub kept : Kept
kept n nodes x k l =
    ap (λ (vs : List Matrix). get_or vs k (δ exact)) (one_listed n nodes x)
    ∙ get_or-append (node_matrices n nodes) (matrix_after n (node_matrices n nodes) x ∷ []) (δ exact) k (omega (arith, places n nodes))
