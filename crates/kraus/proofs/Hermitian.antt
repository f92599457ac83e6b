-- Blocks are Hermitian, whatever the branches; so a diagonal entry has no i part.
use mathlib.Core.Path.{◌≡◌, refl, sym, ap, ◌∙◌, fun_ext}
use mathlib.Core.List.{List, [], ◌∷◌}
use Prim.Native.Nat.{ℕ}
use lib.ListN.{get_or}
use Rattle.algebra.specs.Lists.{filter_by}
use Rattle.algebra.proofs.Perm.{gather}
use Rattle.exact.specs.Exact.{Exact, exact, conj}
use Rattle.exact.proofs.Exact.{exacts, conj-plus, conj-by, conj-conj}
use Rattle.kraus.specs.Branch.{Store, Branch}
use Rattle.kraus.specs.Blocks.{having, overlap, block}

conj-gather : {A : Type 0} (φ : A → Exact) (xs : List A) (m : Exact) → conj (gather exact.◌⊕◌ φ m xs) ≡ gather exact.◌⊕◌ (λ (a : A). conj (φ a)) (conj m) xs
conj-gather φ [] m = refl
conj-gather {A} φ (x ∷ xs) m = conj-gather φ xs (exact.◌⊕◌ m (φ x)) ∙ ap (λ (z : Exact). gather exact.◌⊕◌ (λ (a : A). conj (φ a)) z xs) (conj-plus m (φ x))

conj-overlap : (i j : ℕ) (b : Branch) → conj (overlap j i b) ≡ overlap i j b
conj-overlap i j b =
    let x = get_or b.matrix i exact.𝟘 in
    let y = get_or b.matrix j exact.𝟘 in
    conj-by y (conj x) ∙ ap (exact.◌⊗◌ (conj y)) (conj-conj x) ∙ exacts.mul_comm (conj y) x

pub hermitian : (bs : List Branch) (τ : Store) (i j : ℕ) → block bs τ i j ≡ conj (block bs τ j i)
hermitian bs τ i j = sym (conj-gather (overlap j i) (filter_by (having τ) bs) exact.𝟘
    ∙ ap (λ (φ : Branch → Exact). gather exact.◌⊕◌ φ exact.𝟘 (filter_by (having τ) bs)) (fun_ext (conj-overlap i j)))
