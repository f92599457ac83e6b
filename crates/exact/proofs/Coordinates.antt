-- The coordinates of a product, as expressions over eight variables: for the ring solver, and for computed sizes.
use mathlib.Core.List.{List, [], ◌∷◌}
use Prim.Native.Nat.{ℕ}
use lib.IntN.{ℤ, pos, negsuc}
use Rattle.algebra.specs.Ops.{Ops}
use Rattle.algebra.specs.Quadratic.{Pair, pair, quadratic}
use Rattle.algebra.proofs.Solver.{Expr, con, var, expr_ops}
use Rattle.algebra.proofs.Bound.{Within as Bounded}
use Rattle.exact.specs.Exact.{Number}
use Rattle.exact.specs.Inner.Sizes.{Within}

-- the numerators' operations, on expressions
abbrev pub formulas : Ops (Pair (Pair Expr))
formulas = quadratic (quadratic expr_ops (con (pos 2))) (pair (con (negsuc 0)) (con (pos 0)))

abbrev pub x : Pair (Pair Expr)
x = pair (pair (var 0) (var 1)) (pair (var 2) (var 3))

abbrev pub xy : Pair (Pair Expr)
xy = formulas.◌⊗◌ x (pair (pair (var 4) (var 5)) (pair (var 6) (var 7)))

-- the variables' values, and bounds on them
abbrev pub eight : Number → Number → List ℤ
eight x y = x.re.re ∷ x.re.im ∷ x.im.re ∷ x.im.im ∷ y.re.re ∷ y.re.im ∷ y.im.re ∷ y.im.im ∷ []

abbrev pub bounds : ℕ → ℕ → List ℕ
bounds p q = p ∷ p ∷ p ∷ p ∷ q ∷ q ∷ q ∷ q ∷ []

pub bounded : {p q : ℕ} {x y : Number} → Within p x → Within q y → Bounded (eight x y) (bounds p q)
bounded h k = (h.w0, (h.w1, (h.w2, (h.w3, (k.w0, (k.w1, (k.w2, (k.w3, tt))))))))
