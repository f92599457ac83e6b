-- What the machine computes for an integer expression: each operand is read back from bits, `to_z w (of_z w z)`, and where each node fits
-- that is the expression's value. `raw` is the number that an operation is asked to fit, as a need states it; a subtraction is `a ⊞ ⊟ b`.
-- `var i` is a value that a local was given (a parameter, a field, an element, a call's result), `held i` bits that a loop changes.
use mathlib.Core.Path.{◌≡◌, refl, sym, ◌∙◌, ap, subst}
use mathlib.Core.List.{List}
use Prim.Native.Nat.{ℕ, ◌+◌, ◌*◌, ◌^◌}
use lib.Dec.{T, ltb}
use mathlib.Core.Bool.{Bool, true, ◌&&◌}
use lib.Ieee.Fits.{and_l, and_r}
use lib.IntN.{ℤ, pos, neg_ℤ, ◌+ℤ◌, ◌*ℤ◌}
use mir.Syntax.{Width}
use mir.Val.{SFits, hbits, to_z, of_z}
use mir.Facts.{to_z-of_z}
use Rattle.algebra.proofs.Ring.{ℤR}
use Rattle.algebra.proofs.Solver.{Expr, con, var, held, ◌⊞◌, ◌⊠◌, ⊟, look, ⟦◌⟧}
use Rattle.algebra.proofs.Bound.{bnd, Within, bounded_fits}

abbrev pub machine : Width → (ℕ → ℤ) → Expr → ℤ
machine w ρ (con c) = c
machine w ρ (var i) = to_z w (of_z w (ρ i))
machine w ρ (held i) = ρ i
machine w ρ (a ⊞ b) = to_z w (of_z w (machine w ρ a +ℤ machine w ρ b))
machine w ρ (a ⊠ b) = to_z w (of_z w (machine w ρ a *ℤ machine w ρ b))
machine w ρ (⊟ a) = neg_ℤ (machine w ρ a)

abbrev pub raw : Width → (ℕ → ℤ) → Expr → ℤ
raw w ρ (con c) = c
raw w ρ (var i) = ρ i
raw w ρ (held i) = ρ i
raw w ρ (a ⊞ b) = machine w ρ a +ℤ machine w ρ b
raw w ρ (a ⊠ b) = machine w ρ a *ℤ machine w ρ b
raw w ρ (⊟ a) = neg_ℤ (machine w ρ a)

-- every node but a constant and a negation is asked to be below half the width's power
abbrev pub fits_all : Width → (ℕ → ℕ) → Expr → Bool
fits_all w b (con c) = true
fits_all w b (var i) = ltb (b i) (2 ^ hbits w)
fits_all w b (held i) = true
fits_all w b (x ⊞ y) = ◌&&◌ (ltb (bnd b x + bnd b y) (2 ^ hbits w)) (◌&&◌ (fits_all w b x) (fits_all w b y))
fits_all w b (x ⊠ y) = ◌&&◌ (ltb (bnd b x * bnd b y) (2 ^ hbits w)) (◌&&◌ (fits_all w b x) (fits_all w b y))
fits_all w b (⊟ x) = fits_all w b x

-- an expression and all its parts fit
abbrev pub fits_top : Width → (ℕ → ℕ) → Expr → Bool
fits_top w b e = ◌&&◌ (ltb (bnd b e) (2 ^ hbits w)) (fits_all w b e)

-- `h` says how large the values `xs` are at most, by `bs`
module _ (w : Width) (xs : List ℤ) (bs : List ℕ) (h : Within xs bs) where
  abbrev ρ : ℕ → ℤ
  ρ = look (pos 0) xs

  abbrev b : ℕ → ℕ
  b = look 0 bs

  back : (e : Expr) → T (ltb (bnd b e) (2 ^ hbits w)) → (z : ℤ) → z ≡ ⟦◌⟧ ℤR ρ e → to_z w (of_z w z) ≡ ⟦◌⟧ ℤR ρ e
  back e t z p = ap (λ (x : ℤ). to_z w (of_z w x)) p ∙ to_z-of_z (bounded_fits w xs bs e h t)

  -- the machine's value is the value
  pub machine_is : (e : Expr) → T (fits_all w (look 0 bs) e) → machine w (look (pos 0) xs) e ≡ ⟦◌⟧ ℤR (look (pos 0) xs) e
  machine_is (con c) t = refl
  machine_is (var i) t = back (var i) t (ρ i) refl
  machine_is (held i) t = refl
  machine_is (x ⊞ y) t =
      let u = and_r (ltb (bnd b x + bnd b y) (2 ^ hbits w)) (◌&&◌ (fits_all w b x) (fits_all w b y)) t in
      back (x ⊞ y) (and_l (ltb (bnd b x + bnd b y) (2 ^ hbits w)) (◌&&◌ (fits_all w b x) (fits_all w b y)) t) (machine w ρ x +ℤ machine w ρ y)
      (ap (λ (z : ℤ). z +ℤ machine w ρ y) (machine_is x (and_l (fits_all w b x) (fits_all w b y) u))
      ∙ ap (λ (z : ℤ). ⟦◌⟧ ℤR ρ x +ℤ z) (machine_is y (and_r (fits_all w b x) (fits_all w b y) u)))
  machine_is (x ⊠ y) t =
      let u = and_r (ltb (bnd b x * bnd b y) (2 ^ hbits w)) (◌&&◌ (fits_all w b x) (fits_all w b y)) t in
      back (x ⊠ y) (and_l (ltb (bnd b x * bnd b y) (2 ^ hbits w)) (◌&&◌ (fits_all w b x) (fits_all w b y)) t) (machine w ρ x *ℤ machine w ρ y)
      (ap (λ (z : ℤ). z *ℤ machine w ρ y) (machine_is x (and_l (fits_all w b x) (fits_all w b y) u))
      ∙ ap (λ (z : ℤ). ⟦◌⟧ ℤR ρ x *ℤ z) (machine_is y (and_r (fits_all w b x) (fits_all w b y) u)))
  machine_is (⊟ x) t = ap neg_ℤ (machine_is x t)

  pub raw_is : (e : Expr) → T (fits_all w (look 0 bs) e) → raw w (look (pos 0) xs) e ≡ ⟦◌⟧ ℤR (look (pos 0) xs) e
  raw_is (con c) t = refl
  raw_is (var i) t = refl
  raw_is (held i) t = refl
  raw_is (x ⊞ y) t =
      let u = and_r (ltb (bnd b x + bnd b y) (2 ^ hbits w)) (◌&&◌ (fits_all w b x) (fits_all w b y)) t in
      ap (λ (z : ℤ). z +ℤ machine w ρ y) (machine_is x (and_l (fits_all w b x) (fits_all w b y) u))
      ∙ ap (λ (z : ℤ). ⟦◌⟧ ℤR ρ x +ℤ z) (machine_is y (and_r (fits_all w b x) (fits_all w b y) u))
  raw_is (x ⊠ y) t =
      let u = and_r (ltb (bnd b x * bnd b y) (2 ^ hbits w)) (◌&&◌ (fits_all w b x) (fits_all w b y)) t in
      ap (λ (z : ℤ). z *ℤ machine w ρ y) (machine_is x (and_l (fits_all w b x) (fits_all w b y) u))
      ∙ ap (λ (z : ℤ). ⟦◌⟧ ℤR ρ x *ℤ z) (machine_is y (and_r (fits_all w b x) (fits_all w b y) u))
  raw_is (⊟ x) t = ap neg_ℤ (machine_is x t)

  -- what an operation is asked to fit does: the last argument is `tt`
  pub op_fits : (e : Expr) → T (fits_top w (look 0 bs) e) → SFits w (raw w (look (pos 0) xs) e)
  op_fits e t =
      subst (λ (z : ℤ). SFits w z) (sym (raw_is e (and_r (ltb (bnd b e) (2 ^ hbits w)) (fits_all w b e) t)))
      (bounded_fits w xs bs e h (and_l (ltb (bnd b e) (2 ^ hbits w)) (fits_all w b e) t))

  -- bits read back
  pub bits_is : (e : Expr) → T (fits_top w (look 0 bs) e) → to_z w (of_z w (raw w (look (pos 0) xs) e)) ≡ ⟦◌⟧ ℤR (look (pos 0) xs) e
  bits_is e t = back e (and_l (ltb (bnd b e) (2 ^ hbits w)) (fits_all w b e) t) (raw w ρ e) (raw_is e (and_r (ltb (bnd b e) (2 ^ hbits w)) (fits_all w b e) t))
