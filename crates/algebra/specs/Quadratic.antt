-- R[√d]: pairs re + im·√d over a ring R, with √d·√d = d.
use Rattle.algebra.specs.Ops.{Ops}

pub record Pair (A : Type 0) : Type 0 where
  pub re : A
  pub im : A

abbrev pub pair : {A : Type 0} → A → A → Pair A
pair a b = record { re = a; im = b }

module _ {A : Type 0} (o : Ops A) where
  infixl 60 ◌⊕◌
  infixl 70 ◌⊗◌
  open o use {𝟘, 𝟙, ◌⊕◌, ◌⊗◌, neg, int}

  abbrev pub quadratic : A → Ops (Pair A)
  quadratic d = record {
    𝟘 = pair 𝟘 𝟘;
    𝟙 = pair 𝟙 𝟘;
    ◌⊕◌ = λ x y. pair (x.re ⊕ y.re) (x.im ⊕ y.im);
    ◌⊗◌ = λ x y. pair (x.re ⊗ y.re ⊕ d ⊗ (x.im ⊗ y.im)) (x.re ⊗ y.im ⊕ x.im ⊗ y.re);
    neg = λ x. pair (neg x.re) (neg x.im);
    int = λ z. pair (int z) 𝟘;
  }

  -- re − im·√d
  abbrev pub conjugate : Pair A → Pair A
  conjugate x = pair x.re (neg x.im)
