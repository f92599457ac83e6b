-- Operators p·1 + q·A, where A is its own adjoint and its own inverse: when their M†M add up to 1.
use mathlib.Core.Path.{◌≡◌, sym, ap, ap₂, ◌∙◌}
use mathlib.Core.Bool.{Bool, true, false, cond}
use mathlib.Core.List.{List}
use Prim.Native.Nat.{ℕ, ◌<◌}
use lib.Dec.{eqb}
use Rattle.algebra.specs.Sum.{sum, list_sum, times, δ}
use Rattle.algebra.proofs.Semi.{Semi, add-zero, zero-zero, zero-mul, add-mul, add-four, mul-four}
use Rattle.algebra.proofs.Sum.{sum_same, sum_one, sum-add, mul-sum, list_sum-same, list_sum-add, list_sum-mul}
use Rattle.algebra.proofs.Adjoint.{Star, δ-same, δ-apart, dot, dot-one}

module _ (𝓡 : Semi) (𝓢 : Star 𝓡) (d : ℕ) where
  infixl 60 ◌⊕◌
  infixl 70 ◌⊗◌
  open 𝓡 use {R, ops, add_comm, mul_assoc, mul_comm, mul-add, mul_zero}
  open 𝓡.ops use {𝟘, 𝟙, ◌⊕◌, ◌⊗◌}
  open 𝓢 use {conj, conj_add, conj_mul, conj_zero, one-mul, one_one}

  -- an axis
  pub record Axis (A : ℕ → ℕ → 𝓡.R) : Type 0 where
    pub square : (r c : ℕ) → r < d → c < d → times 𝓡.ops d A A r c ≡ δ 𝓡.ops r c
    pub adjoint : (r c : ℕ) → r < d → c < d → 𝓢.conj (A c r) ≡ A r c
    pub normal : (r c : ℕ) → 𝓡.ops.◌⊗◌ 𝓡.ops.𝟙 (A r c) ≡ A r c

  module _ (A : ℕ → ℕ → 𝓡.R) (axis : Axis A) where
    -- p·1 + q·A
    abbrev mixed : R → R → ℕ → ℕ → R
    mixed p q r c = p ⊗ δ ops r c ⊕ q ⊗ A r c

    expand : (a b p q x y u v : R) → (a ⊗ x ⊕ b ⊗ y) ⊗ (p ⊗ u ⊕ q ⊗ v) ≡ (a ⊗ p ⊗ (x ⊗ u) ⊕ a ⊗ q ⊗ (x ⊗ v)) ⊕ (b ⊗ p ⊗ (y ⊗ u) ⊕ b ⊗ q ⊗ (y ⊗ v))
    expand a b p q x y u v =
        add-mul 𝓡 (a ⊗ x) (b ⊗ y) (p ⊗ u ⊕ q ⊗ v)
        ∙ ap₂ ◌⊕◌ (mul-add (a ⊗ x) (p ⊗ u) (q ⊗ v) ∙ ap₂ ◌⊕◌ (mul-four 𝓡 a x p u) (mul-four 𝓡 a x q v))
        (mul-add (b ⊗ y) (p ⊗ u) (q ⊗ v) ∙ ap₂ ◌⊕◌ (mul-four 𝓡 b y p u) (mul-four 𝓡 b y q v))

    conj-one : (x : R) → 𝟙 ⊗ x ≡ x → conj 𝟙 ⊗ x ≡ x
    conj-one x h = ap (λ (y : R). conj 𝟙 ⊗ y) (sym h) ∙ sym (mul_assoc (conj 𝟙) 𝟙 x) ∙ ap (λ (y : R). y ⊗ x) one_one ∙ h

    on-left : (k l : ℕ) → k < d → sum ops d (λ (r : ℕ). conj (δ ops r k) ⊗ A r l) ≡ A k l
    on-left k l hk =
        sum_one 𝓡 d k (λ (r : ℕ). conj (δ ops r k)) (λ (r : ℕ). A r l) hk
        (λ r i e. ap (λ (x : R). conj x ⊗ A r l) (δ-apart ops r k e) ∙ ap (λ (x : R). x ⊗ A r l) conj_zero ∙ zero-mul 𝓡 (A r l))
        ∙ ap (λ (x : R). conj x ⊗ A k l) (δ-same ops k) ∙ conj-one (A k l) (axis.normal k l)

    on-right : (k l : ℕ) → k < d → l < d → sum ops d (λ (r : ℕ). conj (A r k) ⊗ δ ops r l) ≡ A k l
    on-right k l hk hl =
        sum_one 𝓡 d l (λ (r : ℕ). conj (A r k)) (λ (r : ℕ). δ ops r l) hl (λ r i e. ap (λ (x : R). conj (A r k) ⊗ x) (δ-apart ops r l e) ∙ mul_zero (conj (A r k)))
        ∙ ap₂ ◌⊗◌ (axis.adjoint k l hk hl) (δ-same ops l) ∙ mul_comm (A k l) 𝟙 ∙ axis.normal k l

    unitary : (k l : ℕ) → k < d → l < d → dot 𝓡 𝓢 d A k l ≡ δ ops k l
    unitary k l hk hl = sum_same 𝓡 d _ _ (λ r i. ap (λ (x : R). x ⊗ A r l) (axis.adjoint k r hk i)) ∙ axis.square k l hk hl

    mixed-dot : (p q : R) (k l : ℕ) → k < d → l < d
        → dot 𝓡 𝓢 d (mixed p q) k l ≡ (conj p ⊗ p ⊕ conj q ⊗ q) ⊗ δ ops k l ⊕ (conj p ⊗ q ⊕ conj q ⊗ p) ⊗ A k l
    mixed-dot p q k l hk hl =
        sum_same 𝓡 d _ _ (λ r i. ap (λ (x : R). x ⊗ mixed p q r l) (conj_add (p ⊗ δ ops r k) (q ⊗ A r k) ∙ ap₂ ◌⊕◌ (conj_mul p (δ ops r k)) (conj_mul q (A r k)))
        ∙ expand (conj p) (conj q) p q (conj (δ ops r k)) (conj (A r k)) (δ ops r l) (A r l))
        ∙ sum-add 𝓡 d (λ (r : ℕ). conj p ⊗ p ⊗ (conj (δ ops r k) ⊗ δ ops r l) ⊕ conj p ⊗ q ⊗ (conj (δ ops r k) ⊗ A r l))
        (λ (r : ℕ). conj q ⊗ p ⊗ (conj (A r k) ⊗ δ ops r l) ⊕ conj q ⊗ q ⊗ (conj (A r k) ⊗ A r l))
        ∙ ap₂ ◌⊕◌
        (sum-add 𝓡 d (λ (r : ℕ). conj p ⊗ p ⊗ (conj (δ ops r k) ⊗ δ ops r l)) (λ (r : ℕ). conj p ⊗ q ⊗ (conj (δ ops r k) ⊗ A r l))
        ∙ ap₂ ◌⊕◌ (part p p (λ (r : ℕ). conj (δ ops r k) ⊗ δ ops r l) (dot-one 𝓡 𝓢 d k l hk)) (part p q (λ (r : ℕ). conj (δ ops r k) ⊗ A r l) (on-left k l hk)))
        (sum-add 𝓡 d (λ (r : ℕ). conj q ⊗ p ⊗ (conj (A r k) ⊗ δ ops r l)) (λ (r : ℕ). conj q ⊗ q ⊗ (conj (A r k) ⊗ A r l))
        ∙ ap₂ ◌⊕◌ (part q p (λ (r : ℕ). conj (A r k) ⊗ δ ops r l) (on-right k l hk hl)) (part q q (λ (r : ℕ). conj (A r k) ⊗ A r l) (unitary k l hk hl)))
        ∙ turn (conj p ⊗ p) (conj p ⊗ q) (conj q ⊗ p) (conj q ⊗ q) (δ ops k l) (A k l)
      where
        part : (a b : R) (f : ℕ → R) {x : R} → sum ops d f ≡ x → sum ops d (λ (r : ℕ). conj a ⊗ b ⊗ f r) ≡ conj a ⊗ b ⊗ x
        part a b f e = sym (mul-sum 𝓡 d (conj a ⊗ b) f) ∙ ap (λ (y : R). conj a ⊗ b ⊗ y) e

        turn : (a b c e x y : R) → (a ⊗ x ⊕ b ⊗ y) ⊕ (c ⊗ y ⊕ e ⊗ x) ≡ (a ⊕ e) ⊗ x ⊕ (b ⊕ c) ⊗ y
        turn a b c e x y =
            ap (λ (z : R). (a ⊗ x ⊕ b ⊗ y) ⊕ z) (add_comm (c ⊗ y) (e ⊗ x)) ∙ add-four 𝓡 (a ⊗ x) (b ⊗ y) (e ⊗ x) (c ⊗ y)
            ∙ sym (ap₂ ◌⊕◌ (add-mul 𝓡 a e x) (add-mul 𝓡 b c y))

    one-δ : (k l : ℕ) → 𝟙 ⊗ δ ops k l ⊕ 𝟘 ≡ δ ops k l
    one-δ k l = go (eqb k l)
      where
        unit : 𝟙 ⊗ 𝟙 ≡ 𝟙
        unit = ap (λ (x : R). 𝟙 ⊗ x) (sym one_one) ∙ one-mul (conj 𝟙) 𝟙 ∙ one_one

        go : (b : Bool) → 𝟙 ⊗ cond b 𝟙 𝟘 ⊕ 𝟘 ≡ cond b 𝟙 𝟘
        go true = add-zero 𝓡 𝟙 𝟙 ∙ unit
        go false = ap (λ (x : R). x ⊕ 𝟘) (mul_zero 𝟙) ∙ zero-zero 𝓡

    -- coefficients p and q: the squares add up to 1, and the mixed products to 0
    pub mixed-complete : {Q : Type 0} (p q : Q → 𝓡.R) (cs : List Q)
        → list_sum 𝓡.ops (λ (c : Q). 𝓡.ops.◌⊕◌ (𝓡.ops.◌⊗◌ (𝓢.conj (p c)) (p c)) (𝓡.ops.◌⊗◌ (𝓢.conj (q c)) (q c))) cs ≡ 𝓡.ops.𝟙
        → list_sum 𝓡.ops (λ (c : Q). 𝓡.ops.◌⊕◌ (𝓡.ops.◌⊗◌ (𝓢.conj (p c)) (q c)) (𝓡.ops.◌⊗◌ (𝓢.conj (q c)) (p c))) cs ≡ 𝓡.ops.𝟘
        → (k l : ℕ) → k < d → l < d
        → list_sum 𝓡.ops (λ (c : Q). dot 𝓡 𝓢 d (λ (r s : ℕ). 𝓡.ops.◌⊕◌ (𝓡.ops.◌⊗◌ (p c) (δ 𝓡.ops r s)) (𝓡.ops.◌⊗◌ (q c) (A r s))) k l) cs ≡ δ 𝓡.ops k l
    mixed-complete {Q} p q cs h g k l hk hl =
        list_sum-same 𝓡 _ _ cs (λ c. mixed-dot (p c) (q c) k l hk hl)
        ∙ list_sum-add 𝓡 (λ (c : Q). (conj (p c) ⊗ p c ⊕ conj (q c) ⊗ q c) ⊗ δ ops k l) (λ (c : Q). (conj (p c) ⊗ q c ⊕ conj (q c) ⊗ p c) ⊗ A k l) cs
        ∙ ap₂ ◌⊕◌ (sym (list_sum-mul 𝓡 (λ (c : Q). conj (p c) ⊗ p c ⊕ conj (q c) ⊗ q c) cs (δ ops k l)) ∙ ap (λ (x : R). x ⊗ δ ops k l) h)
        (sym (list_sum-mul 𝓡 (λ (c : Q). conj (p c) ⊗ q c ⊕ conj (q c) ⊗ p c) cs (A k l)) ∙ ap (λ (x : R). x ⊗ A k l) g ∙ zero-mul 𝓡 (A k l))
        ∙ one-δ k l
