-- `product` meets its contract: each operation's size is bounded by computation, and the solver compares the coordinates.
use mathlib.Core.List.{[], ◌∷◌}
use lib.IntN.{pos}
use Rattle.algebra.proofs.Solver.{Expr, con, ◌⊞◌, ◌⊠◌, ⊟}
use Rattle.exact.proofs.Coordinates.{xy}
use Rattle.exact.proofs.Products.{x0, x1, x2, x3, y0, y1, y2, y3, fits, is}
use Rattle.exact.proofs.numerators.product.Lts as lts
use Rattle.exact.proofs.numerators.product.Reads as reads
use Rattle.exact.proofs.numerators.product.Goals as goal

abbrev After-y3-1 : Type 0
After-y3-1 = lts.After-y3 reads.Pre reads.Post

abbrev Start : Type 0
Start = lts.Start reads.Pre reads.Post

-- the coordinates, as the code has them
abbrev m0 : Expr
m0 = x0 ⊠ y0 ⊞ con (pos 2) ⊠ (x1 ⊠ y1) ⊞ ⊟ (x2 ⊠ y2) ⊞ ⊟ (con (pos 2) ⊠ (x3 ⊠ y3))

abbrev m1 : Expr
m1 = x0 ⊠ y1 ⊞ x1 ⊠ y0 ⊞ ⊟ (x2 ⊠ y3) ⊞ ⊟ (x3 ⊠ y2)

abbrev m2 : Expr
m2 = x0 ⊠ y2 ⊞ con (pos 2) ⊠ (x1 ⊠ y3) ⊞ x2 ⊠ y0 ⊞ con (pos 2) ⊠ (x3 ⊠ y1)

abbrev m3 : Expr
m3 = x0 ⊠ y3 ⊞ x1 ⊠ y2 ⊞ x2 ⊠ y1 ⊞ x3 ⊠ y0

abbrev start : After-y3-1 → Start
start c = c.before.before.before.before.before.before.before.before

pub returns : goal.returns
returns c =
    let h = (start c).requires in
    λ i. is h m0 xy.re.re tt tt i ∷ is h m1 xy.re.im tt tt i ∷ is h m2 xy.im.re tt tt i ∷ is h m3 xy.im.im tt tt i ∷ []

pub overflow_mul-m0 : goal.overflow_mul-m0
overflow_mul-m0 c = fits (start c).requires (x0 ⊠ y0) tt

pub overflow_mul-m0-2 : goal.overflow_mul-m0-2
overflow_mul-m0-2 c = fits (start c).requires (x1 ⊠ y1) tt

pub overflow_mul-m0-3 : goal.overflow_mul-m0-3
overflow_mul-m0-3 c = fits (start c).requires (con (pos 2) ⊠ (x1 ⊠ y1)) tt

pub overflow_add-m0 : goal.overflow_add-m0
overflow_add-m0 c = fits (start c).requires (x0 ⊠ y0 ⊞ con (pos 2) ⊠ (x1 ⊠ y1)) tt

pub overflow_mul-m0-4 : goal.overflow_mul-m0-4
overflow_mul-m0-4 c = fits (start c).requires (x2 ⊠ y2) tt

pub overflow_sub-m0 : goal.overflow_sub-m0
overflow_sub-m0 c = fits (start c).requires (x0 ⊠ y0 ⊞ con (pos 2) ⊠ (x1 ⊠ y1) ⊞ ⊟ (x2 ⊠ y2)) tt

pub overflow_mul-m0-5 : goal.overflow_mul-m0-5
overflow_mul-m0-5 c = fits (start c).requires (x3 ⊠ y3) tt

pub overflow_mul-m0-6 : goal.overflow_mul-m0-6
overflow_mul-m0-6 c = fits (start c).requires (con (pos 2) ⊠ (x3 ⊠ y3)) tt

pub overflow_sub-m0-2 : goal.overflow_sub-m0-2
overflow_sub-m0-2 c = fits (start c).requires (x0 ⊠ y0 ⊞ con (pos 2) ⊠ (x1 ⊠ y1) ⊞ ⊟ (x2 ⊠ y2) ⊞ ⊟ (con (pos 2) ⊠ (x3 ⊠ y3))) tt

pub overflow_mul-m1 : goal.overflow_mul-m1
overflow_mul-m1 c = fits (start c).requires (x0 ⊠ y1) tt

pub overflow_mul-m1-2 : goal.overflow_mul-m1-2
overflow_mul-m1-2 c = fits (start c).requires (x1 ⊠ y0) tt

pub overflow_add-m1 : goal.overflow_add-m1
overflow_add-m1 c = fits (start c).requires (x0 ⊠ y1 ⊞ x1 ⊠ y0) tt

pub overflow_mul-m1-3 : goal.overflow_mul-m1-3
overflow_mul-m1-3 c = fits (start c).requires (x2 ⊠ y3) tt

pub overflow_sub-m1 : goal.overflow_sub-m1
overflow_sub-m1 c = fits (start c).requires (x0 ⊠ y1 ⊞ x1 ⊠ y0 ⊞ ⊟ (x2 ⊠ y3)) tt

pub overflow_mul-m1-4 : goal.overflow_mul-m1-4
overflow_mul-m1-4 c = fits (start c).requires (x3 ⊠ y2) tt

pub overflow_sub-m1-2 : goal.overflow_sub-m1-2
overflow_sub-m1-2 c = fits (start c).requires (x0 ⊠ y1 ⊞ x1 ⊠ y0 ⊞ ⊟ (x2 ⊠ y3) ⊞ ⊟ (x3 ⊠ y2)) tt

pub overflow_mul-m2 : goal.overflow_mul-m2
overflow_mul-m2 c = fits (start c).requires (x0 ⊠ y2) tt

pub overflow_mul-m2-2 : goal.overflow_mul-m2-2
overflow_mul-m2-2 c = fits (start c).requires (x1 ⊠ y3) tt

pub overflow_mul-m2-3 : goal.overflow_mul-m2-3
overflow_mul-m2-3 c = fits (start c).requires (con (pos 2) ⊠ (x1 ⊠ y3)) tt

pub overflow_add-m2 : goal.overflow_add-m2
overflow_add-m2 c = fits (start c).requires (x0 ⊠ y2 ⊞ con (pos 2) ⊠ (x1 ⊠ y3)) tt

pub overflow_mul-m2-4 : goal.overflow_mul-m2-4
overflow_mul-m2-4 c = fits (start c).requires (x2 ⊠ y0) tt

pub overflow_add-m2-2 : goal.overflow_add-m2-2
overflow_add-m2-2 c = fits (start c).requires (x0 ⊠ y2 ⊞ con (pos 2) ⊠ (x1 ⊠ y3) ⊞ x2 ⊠ y0) tt

pub overflow_mul-m2-5 : goal.overflow_mul-m2-5
overflow_mul-m2-5 c = fits (start c).requires (x3 ⊠ y1) tt

pub overflow_mul-m2-6 : goal.overflow_mul-m2-6
overflow_mul-m2-6 c = fits (start c).requires (con (pos 2) ⊠ (x3 ⊠ y1)) tt

pub overflow_add-m2-3 : goal.overflow_add-m2-3
overflow_add-m2-3 c = fits (start c).requires (x0 ⊠ y2 ⊞ con (pos 2) ⊠ (x1 ⊠ y3) ⊞ x2 ⊠ y0 ⊞ con (pos 2) ⊠ (x3 ⊠ y1)) tt

pub overflow_mul-m3 : goal.overflow_mul-m3
overflow_mul-m3 c = fits (start c).requires (x0 ⊠ y3) tt

pub overflow_mul-m3-2 : goal.overflow_mul-m3-2
overflow_mul-m3-2 c = fits (start c).requires (x1 ⊠ y2) tt

pub overflow_add-m3 : goal.overflow_add-m3
overflow_add-m3 c = fits (start c).requires (x0 ⊠ y3 ⊞ x1 ⊠ y2) tt

pub overflow_mul-m3-3 : goal.overflow_mul-m3-3
overflow_mul-m3-3 c = fits (start c).requires (x2 ⊠ y1) tt

pub overflow_add-m3-2 : goal.overflow_add-m3-2
overflow_add-m3-2 c = fits (start c).requires (x0 ⊠ y3 ⊞ x1 ⊠ y2 ⊞ x2 ⊠ y1) tt

pub overflow_mul-m3-4 : goal.overflow_mul-m3-4
overflow_mul-m3-4 c = fits (start c).requires (x3 ⊠ y0) tt

pub overflow_add-m3-3 : goal.overflow_add-m3-3
overflow_add-m3-3 c = fits (start c).requires (x0 ⊠ y3 ⊞ x1 ⊠ y2 ⊞ x2 ⊠ y1 ⊞ x3 ⊠ y0) tt
