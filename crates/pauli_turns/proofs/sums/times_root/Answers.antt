-- `times_root` meets its contract: each operation's size is bounded by computation, and the solver compares the coordinates.
use mathlib.Core.List.{[], ◌∷◌}
use lib.IntN.{pos}
use Rattle.algebra.specs.Quadratic.{Pair, pair}
use Rattle.algebra.proofs.Solver.{Expr, con, ◌⊞◌, ◌⊠◌, ⊟}
use Rattle.exact.proofs.Coordinates.{formulas}
use Rattle.exact.proofs.Products.{x1, x3, y0, y1, y2, y3, fits, is}
use Rattle.pauli_turns.proofs.sums.times_root.Goals as goal

-- the product, and what the code computes
abbrev xy : Pair (Pair Expr)
xy = formulas.◌⊗◌ (pair (pair (con (pos 0)) x1) (pair (con (pos 0)) x3)) (pair (pair y0 y1) (pair y2 y3))

abbrev c0 : Expr
c0 = x1 ⊠ y0 ⊞ ⊟ (x3 ⊠ y2)

abbrev c1 : Expr
c1 = x1 ⊠ y1 ⊞ ⊟ (x3 ⊠ y3)

abbrev c2 : Expr
c2 = x1 ⊠ y2 ⊞ x3 ⊠ y0

abbrev c3 : Expr
c3 = x1 ⊠ y3 ⊞ x3 ⊠ y1

pub overflow_mul-c0 : goal.overflow_mul-c0
overflow_mul-c0 c = fits c.requires (x1 ⊠ y0) tt

pub overflow_mul-c0-2 : goal.overflow_mul-c0-2
overflow_mul-c0-2 c = fits c.requires (x3 ⊠ y2) tt

pub overflow_sub-c0 : goal.overflow_sub-c0
overflow_sub-c0 c = fits c.requires c0 tt

pub overflow_mul-c1 : goal.overflow_mul-c1
overflow_mul-c1 c = fits c.requires (x1 ⊠ y1) tt

pub overflow_mul-c1-2 : goal.overflow_mul-c1-2
overflow_mul-c1-2 c = fits c.requires (x3 ⊠ y3) tt

pub overflow_sub-c1 : goal.overflow_sub-c1
overflow_sub-c1 c = fits c.requires c1 tt

pub overflow_mul-c2 : goal.overflow_mul-c2
overflow_mul-c2 c = fits c.requires (x1 ⊠ y2) tt

pub overflow_mul-c2-2 : goal.overflow_mul-c2-2
overflow_mul-c2-2 c = fits c.requires (x3 ⊠ y0) tt

pub overflow_add-c2 : goal.overflow_add-c2
overflow_add-c2 c = fits c.requires c2 tt

pub overflow_mul-c3 : goal.overflow_mul-c3
overflow_mul-c3 c = fits c.requires (x1 ⊠ y3) tt

pub overflow_mul-c3-2 : goal.overflow_mul-c3-2
overflow_mul-c3-2 c = fits c.requires (x3 ⊠ y1) tt

pub overflow_add-c3 : goal.overflow_add-c3
overflow_add-c3 c = fits c.requires c3 tt

pub overflow_mul-result : goal.overflow_mul-result
overflow_mul-result c = fits c.requires (con (pos 2) ⊠ c1) tt

pub overflow_mul-result-2 : goal.overflow_mul-result-2
overflow_mul-result-2 c = fits c.requires (con (pos 2) ⊠ c3) tt

pub returns : goal.returns
returns c =
    let h = c.requires in
    λ i. is h (con (pos 2) ⊠ c1) xy.re.re tt tt i ∷ is h c0 xy.re.im tt tt i ∷ is h (con (pos 2) ⊠ c3) xy.im.re tt tt i ∷ is h c2 xy.im.im tt tt i ∷ []
