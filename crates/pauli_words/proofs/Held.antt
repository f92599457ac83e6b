-- Mask forms in an array: one more put behind those of the nodes before it, and those of the basis.
use mathlib.Core.Path.{◌≡◌, sym, ap, ap₂, ◌∙◌, subst}
use mathlib.Core.List.{List, [], ◌∷◌, ◌++◌}
use Prim.Native.Nat.{ℕ, suc, ◌+◌, ◌-◌, ◌*◌, ◌^◌, ◌≤◌, ◌<◌}
use native.Mathlib.Omega.{arith}
use lib.ListN.{length, set, take, length-set}
use lib.Seq.{take-suc-set}
use Rattle.pauli_nodes.specs.Nodes.{Node, single, basis_from, in_order}
use Rattle.pauli_nodes.specs.Inner.Masks.{Mask, identity_mask, pauli_mask, mask_after}
use Rattle.pauli_words.specs.Questions.{number_of}
use Rattle.pauli_words.specs.Inner.Masks.{basis_masks}

module _ (n : ℕ) where
  -- the nodes from the k-th on, xs, are still to come
  pub record Laid (ms : List Mask) (k : ℕ) (xs : List Node) (whole : List Mask) : Type 0 where
    pub all : in_order (mask_after n) xs (take k ms) ≡ whole

  pub laid_next : {ms : List Mask} {k : ℕ} {x : Node} {xs : List Node} {whole : List Mask} → Laid ms k (x ∷ xs) whole → (v : Mask) → k < length ms
      → v ≡ mask_after n (take k ms) x → Laid (set ms k v) (suc k) xs whole
  laid_next {ms = ms} {k = k} {x = x} {xs = xs} h v l e = record {
    all = ap (in_order (mask_after n) xs) (take-suc-set ms k v l ∙ ap (λ (m : Mask). take k ms ++ (m ∷ [])) e) ∙ h.all;
  }

  -- before any qubit, and one qubit more
  pub laid_none : (ms : List Mask) {x : Mask} → 0 < length ms → x ≡ identity_mask → Laid (set ms 0 x) (1 + 2 * 0) (basis_from (n - 0) 0) (basis_masks n)
  laid_none ms {x} l f =
      let e : n - 0 ≡ n = omega arith in
      record { all = ap₂ (λ (m : ℕ) (vs : List Mask). in_order (mask_after n) (basis_from m 0) vs) e (take-suc-set ms 0 x l ∙ ap (λ (x : Mask). x ∷ []) f) }

  pub laid_qubit : {ms : List Mask} {q : ℕ} {whole : List Mask} → Laid ms (1 + 2 * q) (basis_from (n - q) q) whole → q < n → 2 + 2 * q < length ms
      → (w : ℕ) (x z : Mask) → w ≡ 2 ^ (n - 1 - q) → x ≡ pauli_mask w 1 → z ≡ pauli_mask w 3
      → Laid (set (set ms (1 + 2 * q) x) (1 + 2 * q + 1) z) (1 + 2 * (q + 1)) (basis_from (n - (q + 1)) (q + 1)) whole
  laid_qubit {ms} {q} {whole} h l long w x z e a b =
      let m : n - q ≡ suc (n - (q + 1)) = omega arith in
      let s : suc q ≡ q + 1 = omega arith in
      let k : suc (1 + 2 * q) ≡ 1 + 2 * q + 1 = omega arith in
      let k₂ : suc (1 + 2 * q + 1) ≡ 1 + 2 * (q + 1) = omega arith in
      let start : Laid ms (1 + 2 * q) (single q 1 ∷ single q 3 ∷ basis_from (n - (q + 1)) (suc q)) whole = subst (λ (m : ℕ). Laid ms (1 + 2 * q) (basis_from m q) whole) m h in
      let one = laid_next start x (omega arith) (a ∙ ap (λ (v : ℕ). pauli_mask v 1) e) in
      let two = laid_next (subst (λ (j : ℕ). Laid (set ms (1 + 2 * q) x) j (single q 3 ∷ basis_from (n - (q + 1)) (suc q)) whole) k one) z (omega (arith, length-set ms (1 + 2 * q) x)) (b ∙ ap (λ (v : ℕ). pauli_mask v 3) e) in
      subst (λ (j : ℕ). Laid (set (set ms (1 + 2 * q) x) (1 + 2 * q + 1) z) j (basis_from (n - (q + 1)) (q + 1)) whole) k₂
      (subst (λ (j : ℕ). Laid (set (set ms (1 + 2 * q) x) (1 + 2 * q + 1) z) (suc (1 + 2 * q + 1)) (basis_from (n - (q + 1)) j) whole) s two)

  pub laid_all : {ms : List Mask} {q : ℕ} {whole : List Mask} → Laid ms (1 + 2 * q) (basis_from (n - q) q) whole → n ≤ q → q ≤ n → take (number_of n 0) ms ≡ whole
  laid_all {ms} {q} h l m =
      let e : n - q ≡ 0 = omega arith in
      let k : number_of n 0 ≡ 1 + 2 * q = omega arith in
      ap (λ (j : ℕ). take j ms) k ∙ ap (λ (m : ℕ). in_order (mask_after n) (basis_from m q) (take (1 + 2 * q) ms)) (sym e) ∙ h.all
