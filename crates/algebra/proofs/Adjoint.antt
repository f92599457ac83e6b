-- Conjugation over a semiring, and M†M of matrices: the sum of it over operators, and over products with them.
use mathlib.Core.Path.{◌≡◌, refl, sym, ap, ap₂, ◌∙◌}
use mathlib.Core.Logic.{◌≢◌}
use mathlib.Core.Bool.{Bool, true, false, cond}
use mathlib.Core.List.{List}
use Prim.Native.Nat.{ℕ, zero, suc, ◌<◌}
use lib.Dec.{eqb}
use borrow.Author.Tests.{eqb-true, eqb-false, eq-eqb}
use Rattle.algebra.specs.Ops.{Ops}
use Rattle.algebra.specs.Sum.{sum, list_sum, times, δ}
use Rattle.algebra.proofs.Semi.{Semi, zero-mul, mul-four}
use Rattle.algebra.proofs.Sum.{sum_same, sum_one, mul-sum, sum-mul, sum-swap, list_sum-same, list_sum-mul, sum-list_sum}

-- what is asked of conjugation, and of 1
pub record Star (𝓡 : Semi) : Type 0 where
  pub conj : 𝓡.R → 𝓡.R
  pub conj_add : (a b : 𝓡.R) → conj (𝓡.ops.◌⊕◌ a b) ≡ 𝓡.ops.◌⊕◌ (conj a) (conj b)
  pub conj_mul : (a b : 𝓡.R) → conj (𝓡.ops.◌⊗◌ a b) ≡ 𝓡.ops.◌⊗◌ (conj a) (conj b)
  pub conj_zero : conj 𝓡.ops.𝟘 ≡ 𝓡.ops.𝟘
  pub one-mul : (a b : 𝓡.R) → 𝓡.ops.◌⊗◌ 𝓡.ops.𝟙 (𝓡.ops.◌⊗◌ a b) ≡ 𝓡.ops.◌⊗◌ a b
  pub one_one : 𝓡.ops.◌⊗◌ (conj 𝓡.ops.𝟙) 𝓡.ops.𝟙 ≡ 𝓡.ops.𝟙

-- ---- the identity matrix
module _ {A : Type 0} (o : Ops A) where
  open o use {𝟘, 𝟙}

  pub δ-same : (k : ℕ) → δ o k k ≡ 𝟙
  δ-same k = ap (λ (b : Bool). cond b 𝟙 𝟘) (eq-eqb k k refl)

  pub δ-apart : (k l : ℕ) → k ≢ l → δ o k l ≡ 𝟘
  δ-apart k l h = go (eqb k l) refl
    where
      go : (b : Bool) → eqb k l ≡ b → cond b 𝟙 𝟘 ≡ 𝟘
      go true e = absurd (h (eqb-true k l e))
      go false e = refl

  pub δ-turn : (k l : ℕ) → δ o k l ≡ δ o l k
  δ-turn k l = ap (λ (b : Bool). cond b 𝟙 𝟘) (go (eqb k l) (eqb l k) refl refl)
    where
      go : (a b : Bool) → eqb k l ≡ a → eqb l k ≡ b → a ≡ b
      go true true e f = refl
      go true false e f = absurd (eqb-false l k f (sym (eqb-true k l e)))
      go false true e f = absurd (eqb-false k l e (sym (eqb-true l k f)))
      go false false e f = refl

module _ (𝓡 : Semi) (𝓢 : Star 𝓡) where
  infixl 60 ◌⊕◌
  infixl 70 ◌⊗◌
  open 𝓡 use {R, ops, mul_zero}
  open 𝓡.ops use {𝟘, 𝟙, ◌⊕◌, ◌⊗◌}
  open 𝓢 use {conj, conj_add, conj_mul, conj_zero, one-mul, one_one}

  conj-sum : (n : ℕ) (f : ℕ → R) → conj (sum ops n f) ≡ sum ops n (λ (k : ℕ). conj (f k))
  conj-sum zero f = conj_zero
  conj-sum (suc n) f = conj_add (sum ops n f) (f n) ∙ ap (λ (x : R). x ⊕ conj (f n)) (conj-sum n f)

  module _ (d : ℕ) where
    -- entry (c, c') of M†M: column c, conjugated, times column c'
    abbrev pub dot : (ℕ → ℕ → R) → ℕ → ℕ → R
    dot M c c' = sum ops d (λ (r : ℕ). conj (M r c) ⊗ M r c')

    pub dot-same : (M N : ℕ → ℕ → R) (c c' : ℕ) → ((r : ℕ) → r < d → M r c ≡ N r c) → ((r : ℕ) → r < d → M r c' ≡ N r c') → dot M c c' ≡ dot N c c'
    dot-same M N c c' h k = sum_same 𝓡 d _ _ (λ r l. ap₂ (λ (x y : R). conj x ⊗ y) (h r l) (k r l))

    pub dot-one : (c c' : ℕ) → c < d → dot (δ ops) c c' ≡ δ ops c c'
    dot-one c c' l =
        sum_one 𝓡 d c (λ (r : ℕ). conj (δ ops r c)) (λ (r : ℕ). δ ops r c') l (λ k m e. ap (λ (x : R). conj x ⊗ δ ops k c') (δ-apart ops k c e) ∙ ap (λ (x : R). x ⊗ δ ops k c') conj_zero ∙ zero-mul 𝓡 (δ ops k c'))
        ∙ ap (λ (x : R). conj x ⊗ δ ops c c') (δ-same ops c) ∙ go (eqb c c')
      where
        go : (b : Bool) → conj 𝟙 ⊗ cond b 𝟙 𝟘 ≡ cond b 𝟙 𝟘
        go true = one_one
        go false = mul_zero (conj 𝟙)

    module _ {O : Type 0} (os : List O) where
      abbrev both : (O → ℕ → R) → R
      both f = list_sum ops (λ (o : O). sum ops d (f o)) os

      both-same : (f g : O → ℕ → R) → ((o : O) (r : ℕ) → f o r ≡ g o r) → both f ≡ both g
      both-same f g h = list_sum-same 𝓡 _ _ os (λ o. sum_same 𝓡 d _ _ (λ r l. h o r))

      both-mul : (f : O → ℕ → R) (a : R) → both (λ (o : O) (r : ℕ). f o r ⊗ a) ≡ both f ⊗ a
      both-mul f a = sym (list_sum-mul 𝓡 (λ (o : O). sum ops d (f o)) os a ∙ list_sum-same 𝓡 _ _ os (λ o. sum-mul 𝓡 d (f o) a))

      both-sum : (n : ℕ) (f : ℕ → O → ℕ → R) → both (λ (o : O) (r : ℕ). sum ops n (λ (k : ℕ). f k o r)) ≡ sum ops n (λ (k : ℕ). both (f k))
      both-sum n f = list_sum-same 𝓡 _ _ os (λ o. sum-swap 𝓡 d n (λ (r k : ℕ). f k o r)) ∙ sym (sum-list_sum 𝓡 n (λ (k : ℕ) (o : O). sum ops d (f k o)) os)

      -- operators E whose E†E add up to 1 keep K†K: the (EK)†(EK) add up to it
      pub keep_dot : (E : O → ℕ → ℕ → R) → ((k l : ℕ) → k < d → l < d → list_sum ops (λ (o : O). dot (E o) k l) os ≡ δ ops k l)
          → (K : ℕ → ℕ → R) (c c' : ℕ) → list_sum ops (λ (o : O). dot (times ops d (E o) K) c c') os ≡ dot K c c'
      keep_dot E h K c c' =
          both-same _ _ (λ o r. ap (λ (x : R). x ⊗ times ops d (E o) K r c') (conj-sum d (λ (k : ℕ). E o r k ⊗ K k c))
          ∙ sum-mul 𝓡 d (λ (k : ℕ). conj (E o r k ⊗ K k c)) (times ops d (E o) K r c')
          ∙ sum_same 𝓡 d _ _ (λ k m. mul-sum 𝓡 d (conj (E o r k ⊗ K k c)) (λ (l : ℕ). E o r l ⊗ K l c')
          ∙ sum_same 𝓡 d _ _ (λ l j. ap (λ (x : R). x ⊗ (E o r l ⊗ K l c')) (conj_mul (E o r k) (K k c)) ∙ mul-four 𝓡 (conj (E o r k)) (conj (K k c)) (E o r l) (K l c'))))
          ∙ both-sum d (λ (k : ℕ) (o : O) (r : ℕ). sum ops d (λ (l : ℕ). conj (E o r k) ⊗ E o r l ⊗ (conj (K k c) ⊗ K l c')))
          ∙ sum_same 𝓡 d _ _ (λ k m. both-sum d (λ (l : ℕ) (o : O) (r : ℕ). conj (E o r k) ⊗ E o r l ⊗ (conj (K k c) ⊗ K l c'))
          ∙ sum_same 𝓡 d _ _ (λ l j. both-mul (λ (o : O) (r : ℕ). conj (E o r k) ⊗ E o r l) (conj (K k c) ⊗ K l c') ∙ ap (λ (x : R). x ⊗ (conj (K k c) ⊗ K l c')) (h k l m j))
          ∙ sum_one 𝓡 d k (λ (l : ℕ). δ ops k l) (λ (l : ℕ). conj (K k c) ⊗ K l c') m (λ l j e. ap (λ (x : R). x ⊗ (conj (K k c) ⊗ K l c')) (δ-apart ops k l (λ y. e (sym y))) ∙ zero-mul 𝓡 (conj (K k c) ⊗ K l c'))
          ∙ ap (λ (x : R). x ⊗ (conj (K k c) ⊗ K k c')) (δ-same ops k) ∙ one-mul (conj (K k c)) (K k c'))
