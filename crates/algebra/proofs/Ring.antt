-- Commutative rings, with the integers mapped into each, and what follows from their laws.
use mathlib.Core.Path.{◌≡◌, refl, sym, ◌∙◌, ap}
use lib.IntN.{ℤ, pos, neg_ℤ, ◌+ℤ◌, ◌*ℤ◌, +ℤ_idl, +ℤ_assoc, +ℤ_comm, +ℤ_invr, *ℤ_comm}
use Rattle.algebra.specs.Ops.{Ops, integers}
use Rattle.algebra.proofs.Semi.{Semi, add-four, zero-mul, add-mul}
use Rattle.algebra.proofs.Integers.{*ℤ-+ℤ, *ℤ-assoc, one-*ℤ}

pub record CommRing : Type 1 where
  pub K : Type 0
  pub ops : Ops K
  pub add_assoc : (a b c : K) → ops.◌⊕◌ (ops.◌⊕◌ a b) c ≡ ops.◌⊕◌ a (ops.◌⊕◌ b c)
  pub add_comm : (a b : K) → ops.◌⊕◌ a b ≡ ops.◌⊕◌ b a
  pub zero-add : (a : K) → ops.◌⊕◌ ops.𝟘 a ≡ a
  pub add_neg : (a : K) → ops.◌⊕◌ a (ops.neg a) ≡ ops.𝟘
  pub mul_assoc : (a b c : K) → ops.◌⊗◌ (ops.◌⊗◌ a b) c ≡ ops.◌⊗◌ a (ops.◌⊗◌ b c)
  pub mul_comm : (a b : K) → ops.◌⊗◌ a b ≡ ops.◌⊗◌ b a
  pub one-mul : (a : K) → ops.◌⊗◌ ops.𝟙 a ≡ a
  pub mul-add : (a b c : K) → ops.◌⊗◌ a (ops.◌⊕◌ b c) ≡ ops.◌⊕◌ (ops.◌⊗◌ a b) (ops.◌⊗◌ a c)
  pub int_zero : ops.int (pos 0) ≡ ops.𝟘
  pub int_one : ops.int (pos 1) ≡ ops.𝟙
  pub int_add : (a b : ℤ) → ops.int (a +ℤ b) ≡ ops.◌⊕◌ (ops.int a) (ops.int b)
  pub int_mul : (a b : ℤ) → ops.int (a *ℤ b) ≡ ops.◌⊗◌ (ops.int a) (ops.int b)
  pub int_neg : (a : ℤ) → ops.int (neg_ℤ a) ≡ ops.neg (ops.int a)

abbrev pub ℤR : CommRing
ℤR = record {
  K = ℤ;
  ops = integers;
  add_assoc = +ℤ_assoc;
  add_comm = +ℤ_comm;
  zero-add = +ℤ_idl;
  add_neg = +ℤ_invr;
  mul_assoc = *ℤ-assoc;
  mul_comm = *ℤ_comm;
  one-mul = one-*ℤ;
  mul-add = *ℤ-+ℤ;
  int_zero = refl;
  int_one = refl;
  int_add = λ a b. refl;
  int_mul = λ a b. refl;
  int_neg = λ a. refl;
}

module _ (𝓚 : CommRing) where
  infixl 60 ◌⊕◌
  infixl 70 ◌⊗◌
  open 𝓚 use {K, add_assoc, add_comm, zero-add, add_neg, mul_assoc, mul_comm, one-mul, mul-add}
  open 𝓚.ops use {𝟘, 𝟙, ◌⊕◌, ◌⊗◌, neg}

  pub add-zero : (a : K) → a ⊕ 𝟘 ≡ a
  add-zero a = add_comm a 𝟘 ∙ zero-add a

  pub mul-one : (a : K) → a ⊗ 𝟙 ≡ a
  mul-one a = mul_comm a 𝟙 ∙ one-mul a

  pub mul_zero : (a : K) → a ⊗ 𝟘 ≡ 𝟘
  mul_zero a = twice (a ⊗ 𝟘) (sym (mul-add a 𝟘 𝟘) ∙ ap (λ (x : K). a ⊗ x) (zero-add 𝟘))
    where
      twice : (z : K) → z ⊕ z ≡ z → z ≡ 𝟘
      twice z h = sym (add-zero z) ∙ ap (λ (x : K). z ⊕ x) (sym (add_neg z)) ∙ sym (add_assoc z z (neg z)) ∙ ap (λ (x : K). x ⊕ neg z) h ∙ add_neg z

  abbrev pub semi : Semi
  semi = record {
    R = K;
    ops = 𝓚.ops;
    add_assoc = add_assoc;
    add_comm = add_comm;
    zero-add = λ a b. zero-add (a ⊗ b);
    mul_assoc = mul_assoc;
    mul_comm = mul_comm;
    mul-add = mul-add;
    mul_zero = mul_zero;
  }

  -- k + m = 0 has one solution m
  neg_unique : (k m : K) → k ⊕ m ≡ 𝟘 → m ≡ neg k
  neg_unique k m h =
      sym (zero-add m)
      ∙ ap (λ (x : K). x ⊕ m) (sym (add_comm (neg k) k ∙ add_neg k))
      ∙ add_assoc (neg k) k m
      ∙ ap (λ (x : K). neg k ⊕ x) h
      ∙ add-zero (neg k)

  pub neg_zero : neg 𝟘 ≡ 𝟘
  neg_zero = sym (neg_unique 𝟘 𝟘 (zero-add 𝟘))

  pub neg_neg : (a : K) → neg (neg a) ≡ a
  neg_neg a = sym (neg_unique (neg a) a (add_comm (neg a) a ∙ add_neg a))

  pub neg_mul : (a b : K) → neg a ⊗ b ≡ neg (a ⊗ b)
  neg_mul a b = neg_unique (a ⊗ b) (neg a ⊗ b) (sym (add-mul semi a (neg a) b) ∙ ap (λ (x : K). x ⊗ b) (add_neg a) ∙ zero-mul semi b)

  pub mul_neg : (a b : K) → a ⊗ neg b ≡ neg (a ⊗ b)
  mul_neg a b = mul_comm a (neg b) ∙ neg_mul b a ∙ ap neg (mul_comm b a)

  pub neg_both : (a b : K) → neg a ⊗ neg b ≡ a ⊗ b
  neg_both a b = neg_mul a (neg b) ∙ ap neg (mul_neg a b) ∙ neg_neg (a ⊗ b)

  pub neg_add : (a b : K) → neg (a ⊕ b) ≡ neg a ⊕ neg b
  neg_add a b =
      sym (neg_unique (a ⊕ b) (neg a ⊕ neg b)
      (add-four semi a b (neg a) (neg b) ∙ ap (λ (x : K). x ⊕ (b ⊕ neg b)) (add_neg a) ∙ zero-add (b ⊕ neg b) ∙ add_neg b))

  -- a difference of 0
  pub sub-zero : (a b : K) → a ⊕ neg b ≡ 𝟘 → a ≡ b
  sub-zero a b h =
      sym (add-zero a) ∙ ap (λ (x : K). a ⊕ x) (sym (add_comm (neg b) b ∙ add_neg b)) ∙ sym (add_assoc a (neg b) b)
      ∙ ap (λ (x : K). x ⊕ b) h ∙ zero-add b
