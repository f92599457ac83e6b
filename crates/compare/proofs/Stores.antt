-- Blocks in rising order of their stores, none of them zero: where all entries agree, the stores are the same.
use mathlib.Core.Path.{◌≡◌, refl, sym, ap, ◌∙◌, subst}
use mathlib.Core.Bool.{Bool, true, false, cond, true≢false}
use mathlib.Core.List.{List, [], ◌∷◌}
use Prim.Native.Nat.{ℕ, ◌*◌, ◌<◌}
use lib.Dec.{eqb}
use borrow.Author.Tests.{eq-eqb, eqb-true}
use Rattle.algebra.proofs.Tests.{all-by, or_no}
use Rattle.exact.specs.Exact.{Exact, exact, is_zero}
use Rattle.store.specs.Store.{before}
use Rattle.channel.specs.Layout.{Block}
use Rattle.channel.specs.WellFormed.{all_zero, some_zero}
use Rattle.channel.specs.Claims.{look}
use Rattle.channel.proofs.Sorted.{Above, Sorted, above_trans, keys, look_above, other}

module _ (w : ℕ) where
  -- a block that is not zero is missed where it is missing
  missed : (b : Block) (bs cs : List Block) → some_zero w (b ∷ bs) ≡ false → ((k : ℕ) → k < w * w → look (b ∷ bs) b.store k ≡ look cs b.store k) → ((k : ℕ) → look cs b.store k ≡ exact.𝟘) → ⊥
  missed b bs cs e a z = true≢false (sym (all-by (w * w) (λ (k : ℕ). is_zero (b.entry k).num) (λ k h. ap (λ (x : Exact). is_zero x.num) (sym (here k) ∙ a k h ∙ z k))) ∙ (or_no (all_zero (w * w) b.entry) _ e).0)
    where
      here : (k : ℕ) → look (b ∷ bs) b.store k ≡ b.entry k
      here k = ap (λ (t : Bool). cond t (b.entry k) (look bs b.store k)) (eq-eqb b.store b.store refl)

  pub same-stores : (xs ys : List Block) → Sorted (keys xs) → Sorted (keys ys) → some_zero w xs ≡ false → some_zero w ys ≡ false
      → ((s k : ℕ) → k < w * w → look xs s k ≡ look ys s k) → keys xs ≡ keys ys
  same-stores [] [] p q e f a = refl
  same-stores [] (y ∷ ys) p q e f a = absurd (missed y ys [] f (λ k h. sym (a y.store k h)) (λ k. refl))
  same-stores (x ∷ xs) [] p q e f a = absurd (missed x xs [] e (a x.store) (λ k. refl))
  same-stores (x ∷ xs) (y ∷ ys) p q e f a =
      go (eqb x.store y.store) refl (before x.store y.store) refl (same-stores xs ys p.1.1 q.1.1 (or_no (all_zero (w * w) x.entry) _ e).1 (or_no (all_zero (w * w) y.entry) _ f).1)
    where
      -- past the first store of both
      past : x.store ≡ y.store → (s k : ℕ) → k < w * w → look xs s k ≡ look ys s k
      past d s k h = by (eqb s x.store) refl
        where
          by : (t : Bool) → eqb s x.store ≡ t → look xs s k ≡ look ys s k
          by true t =
              let u = sym (eqb-true s x.store t) in
              look_above xs s k (subst (λ (r : ℕ). Above r (keys xs)) u p.1.0) ∙ sym (look_above ys s k (subst (λ (r : ℕ). Above r (keys ys)) (sym d ∙ u) q.1.0))
          by false t =
              sym (ap (λ (b : Bool). cond b (x.entry k) (look xs s k)) t) ∙ a s k h
              ∙ ap (λ (b : Bool). cond b (y.entry k) (look ys s k)) (ap (eqb s) (sym d) ∙ t)

      go : (t : Bool) → eqb x.store y.store ≡ t → (o : Bool) → before x.store y.store ≡ o
          → (((s k : ℕ) → k < w * w → look xs s k ≡ look ys s k) → keys xs ≡ keys ys) → keys (x ∷ xs) ≡ keys (y ∷ ys)
      go true t o b ih = let d = eqb-true x.store y.store t in λ i. d i ∷ ih (past d) i
      go false t true b ih = absurd (missed x xs (y ∷ ys) e (a x.store) (λ k. look_above (y ∷ ys) x.store k (b, above_trans x.store y.store (keys ys) b q.1.0)))
      go false t false b ih =
          let o = other x.store y.store p.0 q.0 t b in
          absurd (missed y ys (x ∷ xs) f (λ k h. sym (a y.store k h)) (λ k. look_above (x ∷ xs) y.store k (o, above_trans y.store x.store (keys xs) o p.1.0)))
