-- Commutative semirings whose zero is neutral for products: the laws that rings and fractions in lowest form share.
use mathlib.Core.Path.{◌≡◌, sym, ap, ap₂, ◌∙◌}
use Rattle.algebra.specs.Ops.{Ops}

-- the operations may put their results into a lowest form, so 0 is asked to be neutral for products only
pub record Semi : Type 1 where
  pub R : Type 0
  pub ops : Ops R
  pub add_assoc : (a b c : R) → ops.◌⊕◌ (ops.◌⊕◌ a b) c ≡ ops.◌⊕◌ a (ops.◌⊕◌ b c)
  pub add_comm : (a b : R) → ops.◌⊕◌ a b ≡ ops.◌⊕◌ b a
  pub zero-add : (a b : R) → ops.◌⊕◌ ops.𝟘 (ops.◌⊗◌ a b) ≡ ops.◌⊗◌ a b
  pub mul_assoc : (a b c : R) → ops.◌⊗◌ (ops.◌⊗◌ a b) c ≡ ops.◌⊗◌ a (ops.◌⊗◌ b c)
  pub mul_comm : (a b : R) → ops.◌⊗◌ a b ≡ ops.◌⊗◌ b a
  pub mul-add : (a b c : R) → ops.◌⊗◌ a (ops.◌⊕◌ b c) ≡ ops.◌⊕◌ (ops.◌⊗◌ a b) (ops.◌⊗◌ a c)
  pub mul_zero : (a : R) → ops.◌⊗◌ a ops.𝟘 ≡ ops.𝟘

module _ (𝓡 : Semi) where
  infixl 60 ◌⊕◌
  infixl 70 ◌⊗◌
  open 𝓡 use {R, add_assoc, add_comm, zero-add, mul_assoc, mul_comm, mul-add, mul_zero}
  open 𝓡.ops use {𝟘, ◌⊕◌, ◌⊗◌}

  pub add_left : (a b c : R) → a ⊕ (b ⊕ c) ≡ b ⊕ (a ⊕ c)
  add_left a b c = sym (add_assoc a b c) ∙ ap (λ (x : R). x ⊕ c) (add_comm a b) ∙ add_assoc b a c

  pub mul_left : (a b c : R) → a ⊗ (b ⊗ c) ≡ b ⊗ (a ⊗ c)
  mul_left a b c = sym (mul_assoc a b c) ∙ ap (λ (x : R). x ⊗ c) (mul_comm a b) ∙ mul_assoc b a c

  pub add-zero : (a b : R) → a ⊗ b ⊕ 𝟘 ≡ a ⊗ b
  add-zero a b = add_comm (a ⊗ b) 𝟘 ∙ zero-add a b

  pub zero-zero : 𝟘 ⊕ 𝟘 ≡ 𝟘
  zero-zero = ap (λ (x : R). 𝟘 ⊕ x) (sym (mul_zero 𝟘)) ∙ zero-add 𝟘 𝟘 ∙ mul_zero 𝟘

  pub zero-mul : (a : R) → 𝟘 ⊗ a ≡ 𝟘
  zero-mul a = mul_comm 𝟘 a ∙ mul_zero a

  pub add-mul : (a b c : R) → (a ⊕ b) ⊗ c ≡ a ⊗ c ⊕ b ⊗ c
  add-mul a b c = mul_comm (a ⊕ b) c ∙ mul-add c a b ∙ ap₂ ◌⊕◌ (mul_comm c a) (mul_comm c b)

  pub add-four : (a b c e : R) → (a ⊕ b) ⊕ (c ⊕ e) ≡ (a ⊕ c) ⊕ (b ⊕ e)
  add-four a b c e = add_assoc a b (c ⊕ e) ∙ ap (λ (x : R). a ⊕ x) (add_left b c e) ∙ sym (add_assoc a c (b ⊕ e))

  pub mul-four : (a b c e : R) → (a ⊗ b) ⊗ (c ⊗ e) ≡ (a ⊗ c) ⊗ (b ⊗ e)
  mul-four a b c e = mul_assoc a b (c ⊗ e) ∙ ap (λ (x : R). a ⊗ x) (mul_left b c e) ∙ sym (mul_assoc a c (b ⊗ e))
