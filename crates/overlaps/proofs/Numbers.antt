-- A zero factor adds nothing, and its products are zero.
use mathlib.Core.Path.{◌≡◌, ap, ◌∙◌}
use mathlib.Core.Bool.{true}
use mathlib.Core.List.{List}
use Prim.Native.Nat.{ℕ}
use lib.IntN.{ℤ}
use Rattle.algebra.specs.Quadratic.{conjugate}
use Rattle.algebra.proofs.Semi.{zero-mul}
use Rattle.algebra.proofs.Ring.{semi, mul_zero}
use Rattle.algebra.proofs.Ring as Ring
use Rattle.algebra.proofs.Quadratic.{ℤ√2i}
use Rattle.exact.specs.Exact.{Number, numbers, root2, is_zero}
use Rattle.exact.proofs.IsZero.{zero_is}
use Rattle.share.specs.Share.{number_in}
use Rattle.overlaps.specs.Inner.Overlap.{raised_at, overlap, added}

nothing : (a t : Number) → t ≡ numbers.𝟘 → numbers.◌⊕◌ a t ≡ a
nothing a t h = ap (numbers.◌⊕◌ a) h ∙ Ring.add-zero ℤ√2i a

module _ (m : List ℤ) (s q : ℕ) where
  pub left-zero : (x : Number) → is_zero x ≡ true → overlap x s m q ≡ numbers.𝟘
  left-zero x z = ap (λ (y : Number). overlap y s m q) (zero_is x z) ∙ zero-mul (semi ℤ√2i) (conjugate root2 (raised_at s m q))

  right-zero : (x : Number) → is_zero (raised_at s m q) ≡ true → overlap x s m q ≡ numbers.𝟘
  right-zero x z = ap (λ (y : Number). numbers.◌⊗◌ x (conjugate root2 y)) (zero_is (raised_at s m q) z) ∙ mul_zero ℤ√2i x

  pub left-none : (l : List ℤ) (at : ℕ) (x : Number) → is_zero x ≡ true → added l at x s m q ≡ number_in l at
  left-none l at x z = nothing (number_in l at) (overlap x s m q) (left-zero x z)

  pub right-none : (l : List ℤ) (at : ℕ) (x : Number) → is_zero (raised_at s m q) ≡ true → added l at x s m q ≡ number_in l at
  right-none l at x z = nothing (number_in l at) (overlap x s m q) (right-zero x z)
