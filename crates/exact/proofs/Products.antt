-- Two factors' numerators, and what a machine computes of them: an expression fits a word where its computed bound does, and is what the ring says that it is.
use mathlib.Core.Path.{◌≡◌, sym, ◌∙◌, subst}
use mathlib.Core.List.{List}
use Prim.Native.Nat.{ℕ, ◌^◌}
use lib.Dec.{T, ltb}
use lib.IntN.{ℤ, pos, ◌+ℤ◌}
use mir.Syntax.{w64}
use mir.Val.{SFits, hbits}
use mir.Facts.{to_z-of_z}
use Rattle.algebra.proofs.Ring.{ℤR}
use Rattle.algebra.proofs.Solver.{Expr, var, ◌⊞◌, look, holds, solve, ⟦◌⟧}
use Rattle.algebra.proofs.Bound.{bnd, bounded_fits}
use Rattle.algebra.proofs.Machine.{raw, machine, fits_top, fits_all, op_fits, machine_is}
use Rattle.exact.specs.Exact.{Number}
use Rattle.exact.specs.Inner.Sizes.{Within}
use Rattle.exact.proofs.Coordinates.{eight, bounds, bounded}

-- ---- the numerators, by their names in the code
abbrev pub x0 : Expr
x0 = var 0

abbrev pub x1 : Expr
x1 = var 1

abbrev pub x2 : Expr
x2 = var 2

abbrev pub x3 : Expr
x3 = var 3

abbrev pub y0 : Expr
y0 = var 4

abbrev pub y1 : Expr
y1 = var 5

abbrev pub y2 : Expr
y2 = var 6

abbrev pub y3 : Expr
y3 = var 7

module _ {m : ℕ} {x y : Number} (h : Within m x × Within m y) where
  abbrev xs : List ℤ
  xs = eight x y

  -- one operation
  pub fits : (e : Expr) → T (fits_top w64 (look 0 (bounds m m)) e) → SFits w64 (raw w64 (look (pos 0) xs) e)
  fits = op_fits w64 xs (bounds m m) (bounded h.0 h.1)

  -- one coordinate, as the code has it and as the product has it
  pub is : (l r : Expr) → T (fits_all w64 (look 0 (bounds m m)) l) → T (holds l r) → machine w64 (look (pos 0) xs) l ≡ ⟦◌⟧ ℤR (look (pos 0) xs) r
  is l r s t = machine_is w64 xs (bounds m m) (bounded h.0 h.1) l s ∙ solve ℤR (look (pos 0) xs) l r t

  -- a sum whose computed bound does not fit, but that of what it equals does
  module _ (l r e : Expr) (hl : T (fits_all w64 (look 0 (bounds m m)) l)) (hr : T (fits_all w64 (look 0 (bounds m m)) r)) (same : T (holds (l ⊞ r) e))
      (small : T (ltb (bnd (look 0 (bounds m m)) e) (2 ^ hbits w64))) where
    sum_is : raw w64 (look (pos 0) xs) (l ⊞ r) ≡ ⟦◌⟧ ℤR (look (pos 0) xs) e
    sum_is =
        (λ i. machine_is w64 xs (bounds m m) (bounded h.0 h.1) l hl i +ℤ machine_is w64 xs (bounds m m) (bounded h.0 h.1) r hr i)
        ∙ solve ℤR (look (pos 0) xs) (l ⊞ r) e same

    pub equal-fits : SFits w64 (raw w64 (look (pos 0) xs) (l ⊞ r))
    equal-fits = subst (SFits w64) (sym sum_is) (bounded_fits w64 xs (bounds m m) e (bounded h.0 h.1) small)

    pub equal_is : machine w64 (look (pos 0) xs) (l ⊞ r) ≡ ⟦◌⟧ ℤR (look (pos 0) xs) e
    equal_is = to_z-of_z equal-fits ∙ sum_is
