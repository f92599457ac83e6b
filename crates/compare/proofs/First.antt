-- The first unequal entry: what the scan of a store's blocks answers, and the scan of all stores.
use Rattle.std.specs.Prelude.{Option, Some, None}
use Rattle.std.specs.Option.{option_or}
use mathlib.Core.Path.{◌≡◌, refl, sym, ap, ◌∙◌, subst}
use mathlib.Core.Bool.{Bool, true, false, cond, ◌&&◌, ◌||◌, true≢false}
use mathlib.Core.List.{List, [], ◌∷◌}
use Prim.Native.Nat.{ℕ, zero, suc, ◌+◌, ◌*◌, ◌/◌, ◌%◌, ◌≤◌, ◌<◌}
use native.Mathlib.Decide.{dec_lt}
use native.Mathlib.Omega.{arith}
use lib.Dec.{eqb, ltb}
use borrow.Author.Tests.{eq-eqb, eqb-true, ltb-true}
use Rattle.algebra.proofs.Tests.{and_split}
use Rattle.exact.specs.Exact.{equal}
use Rattle.exact.proofs.Equal.{equal-true, equal_of}
use Rattle.compare.specs.declared.Difference.{Difference}
use Rattle.store.specs.Store.{before}
use Rattle.compare.specs.Compare.{Both, entry, scan, first}
use Rattle.compare.specs.Claims.{earlier}
use Rattle.channel.proofs.Sorted.{Above, Sorted, above_trans}
use Rattle.compare.proofs.Merged.{stores, look_left, look_right, none_left, none_right}

-- ---- the entries of one store, n from k on
data Scanned (b : Both) (w n k : ℕ) (d : Option Difference) : Type 0 where
  alike : d ≡ None → ((j : ℕ) → k ≤ j → j < k + n → b.left j ≡ b.right j) → Scanned b w n k d
  differs : (q : ℕ) → k ≤ q → q < k + n → ((j : ℕ) → k ≤ j → j < q → b.left j ≡ b.right j) → (b.left q ≡ b.right q → ⊥) → d ≡ Some (entry b.store (q / w) (q % w) (b.left q) (b.right q)) → Scanned b w n k d

scanned : (b : Both) (w n k : ℕ) → Scanned b w n k (scan b w n k)
unfolding scan
scanned b w zero k = alike refl (λ j p q. absurd (omega arith))
scanned b w (suc n) k = go (equal (b.left k) (b.right k)) refl (scanned b w n (suc k))
  where
    here : Bool → Option Difference
    here t = cond t (scan b w n (suc k)) (Some (entry b.store (k / w) (k % w) (b.left k) (b.right k)))

    from : (j : ℕ) → b.left k ≡ b.right k → k ≤ j → (suc k ≤ j → b.left j ≡ b.right j) → b.left j ≡ b.right j
    from j e p r = by (dec_lt k j)
      where
        by : Dec (k < j) → b.left j ≡ b.right j
        by (yes q) = r q
        by (no q) = let z : k ≡ j = omega arith in subst (λ (i : ℕ). b.left i ≡ b.right i) z e

    go : (t : Bool) → equal (b.left k) (b.right k) ≡ t → Scanned b w n (suc k) (scan b w n (suc k)) → Scanned b w (suc n) k (here (equal (b.left k) (b.right k)))
    go true t (alike e f) = alike (ap here t ∙ e) (λ j p q. from j (equal-true _ _ t) p (λ r. f j r (omega arith)))
    go true t (differs q p r f u e) = differs q (omega arith) (omega arith) (λ j x y. from j (equal-true _ _ t) x (λ z. f j z y)) u (ap here t ∙ e)
    go false t r = differs k (omega arith) (omega arith) (λ j p q. absurd (omega arith)) (λ e. true≢false (sym (equal_of _ _ e) ∙ t)) (ap here t)

-- ---- all stores
pub data Compared (w : ℕ) (bs : List Both) (d : Option Difference) : Type 0 where
  alike : d ≡ None → ((s k : ℕ) → k < w * w → look_left bs s k ≡ look_right bs s k) → Compared w bs d
  differs : (s q : ℕ) → q < w * w → ((t j : ℕ) → j < w * w → earlier t j s q ≡ true → look_left bs t j ≡ look_right bs t j)
      → (look_left bs s q ≡ look_right bs s q → ⊥) → d ≡ Some (entry s (q / w) (q % w) (look_left bs s q) (look_right bs s q)) → Compared w bs d

pub compared : (w : ℕ) (bs : List Both) → Sorted (stores bs) → Compared w bs (first w bs)
compared w [] h = alike refl (λ s k q. refl)
compared w (b ∷ bs) h = go (scanned b w (w * w) 0) (compared w bs h.1.1)
  where
    -- at the store of b, or at another
    at : (s k : ℕ) → (b.left k ≡ b.right k) → (look_left bs s k ≡ look_right bs s k) → look_left (b ∷ bs) s k ≡ look_right (b ∷ bs) s k
    at s k p q = λ i. cond (eqb s b.store) (p i) (q i)

    here : (k : ℕ) → look_left (b ∷ bs) b.store k ≡ b.left k
    here k = ap (λ (t : Bool). cond t (b.left k) (look_left bs b.store k)) (eq-eqb b.store b.store refl)

    here-right : (k : ℕ) → look_right (b ∷ bs) b.store k ≡ b.right k
    here-right k = ap (λ (t : Bool). cond t (b.right k) (look_right bs b.store k)) (eq-eqb b.store b.store refl)

    -- a store at which the later blocks differ is not that of b
    apart : (s k : ℕ) → (look_left bs s k ≡ look_right bs s k → ⊥) → eqb s b.store ≡ false
    apart s k u = by (eqb s b.store) refl
      where
        by : (t : Bool) → eqb s b.store ≡ t → eqb s b.store ≡ false
        by false e = e
        by true e = let a = subst (λ (x : ℕ). Above x (stores bs)) (sym (eqb-true s b.store e)) h.1.0 in absurd (u (none_left bs s k a ∙ sym (none_right bs s k a)))

    go : Scanned b w (w * w) 0 (scan b w (w * w) 0) → Compared w bs (first w bs) → Compared w (b ∷ bs) (first w (b ∷ bs))
    go (alike e f) (alike d g) = alike (ap (λ (x : Option Difference). option_or x (first w bs)) e ∙ d) (λ s k q. at s k (f k (omega arith) (omega arith)) (g s k q))
    go (alike e f) (differs s q p g u d) =
        let z = apart s q u in
        let x : look_left (b ∷ bs) s q ≡ look_left bs s q = ap (λ (t : Bool). cond t (b.left q) (look_left bs s q)) z in
        let y : look_right (b ∷ bs) s q ≡ look_right bs s q = ap (λ (t : Bool). cond t (b.right q) (look_right bs s q)) z in
        differs s q p (λ t j l r. at t j (f j (omega arith) (omega arith)) (g t j l r)) (λ v. u (sym x ∙ v ∙ y))
        (ap (λ (x : Option Difference). option_or x (first w bs)) e ∙ d ∙ (λ i. Some (entry s (q / w) (q % w) (sym x i) (sym y i))))
    go (differs q p r f u e) rest =
        differs b.store q (omega arith) (λ t j l z. before_here t j q l f z) (λ v. u (sym (here q) ∙ v ∙ here-right q))
        (ap (λ (x : Option Difference). option_or x (first w bs)) e ∙ (λ i. Some (entry b.store (q / w) (q % w) (sym (here q) i) (sym (here-right q) i))))
      where
        before_here : (t j q : ℕ) → j < w * w → ((j : ℕ) → 0 ≤ j → j < q → b.left j ≡ b.right j) → earlier t j b.store q ≡ true → look_left (b ∷ bs) t j ≡ look_right (b ∷ bs) t j
        before_here t j q l f z = by (before t b.store) refl z
          where
            by : (x : Bool) → before t b.store ≡ x → (x || (eqb t b.store && ltb j q)) ≡ true → look_left (b ∷ bs) t j ≡ look_right (b ∷ bs) t j
            by true x y = let a : Above t (stores (b ∷ bs)) = (x, above_trans t b.store (stores bs) x h.1.0) in none_left (b ∷ bs) t j a ∙ sym (none_right (b ∷ bs) t j a)
            by false x y =
                let c = and_split (eqb t b.store) (ltb j q) y in
                let e = eqb-true t b.store c.0 in
                subst (λ (s : ℕ). look_left (b ∷ bs) s j ≡ look_right (b ∷ bs) s j) (sym e) (here j ∙ f j (omega arith) (ltb-true j q c.1) ∙ sym (here-right j))
