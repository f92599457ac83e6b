-- The operations of a ring, with no laws, and those of the integers.
use Rattle.std.specs.Prelude.{ℤ, pos, neg_ℤ, ◌+ℤ◌, ◌*ℤ◌}

pub record Ops (A : Type 0) : Type 0 where
  pub 𝟘 : A
  pub 𝟙 : A
  pub ◌⊕◌ : A → A → A
  pub ◌⊗◌ : A → A → A
  pub neg : A → A
  -- an integer as an element
  pub int : ℤ → A

abbrev pub integers : Ops ℤ
integers = record { 𝟘 = pos 0; 𝟙 = pos 1; ◌⊕◌ = ◌+ℤ◌; ◌⊗◌ = ◌*ℤ◌; neg = neg_ℤ; int = λ z. z }
