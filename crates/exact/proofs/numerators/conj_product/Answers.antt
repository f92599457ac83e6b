-- `conj_product` meets its contract: each operation's size is bounded by computation, and the solver compares the coordinates.
use mathlib.Core.List.{[], ◌∷◌}
use lib.IntN.{pos}
use Rattle.algebra.specs.Quadratic.{Pair, pair}
use Rattle.algebra.proofs.Solver.{Expr, con, ◌⊞◌, ◌⊠◌, ⊟}
use Rattle.exact.proofs.Coordinates.{formulas, x}
use Rattle.exact.proofs.Products.{x0, x1, x2, x3, y0, y1, y2, y3, fits, is, equal-fits, equal_is}
use Rattle.exact.proofs.numerators.conj_product.Lts as lts
use Rattle.exact.proofs.numerators.conj_product.Reads as reads
use Rattle.exact.proofs.numerators.conj_product.Goals as goal

abbrev After-y3-1 : Type 0
After-y3-1 = lts.After-y3 reads.Pre reads.Post

abbrev Start : Type 0
Start = lts.Start reads.Pre reads.Post

-- the coordinates, as the code has them; the last, (w − c) + r, fits as the coordinate of the product that it equals
abbrev a : Expr
a = x0 ⊠ y0

abbrev b : Expr
b = x1 ⊠ y1

abbrev c : Expr
c = (((x0 ⊞ x1) ⊠ (y0 ⊞ y1)) ⊞ ⊟ a) ⊞ ⊟ b

abbrev p : Expr
p = x2 ⊠ y2

abbrev q : Expr
q = x3 ⊠ y3

abbrev r : Expr
r = (((x2 ⊞ x3) ⊠ (y2 ⊞ y3)) ⊞ ⊟ p) ⊞ ⊟ q

abbrev u0 : Expr
u0 = x0 ⊞ x2

abbrev u1 : Expr
u1 = x1 ⊞ x3

abbrev v0 : Expr
v0 = y0 ⊞ ⊟ y2

abbrev v1 : Expr
v1 = y1 ⊞ ⊟ y3

abbrev s : Expr
s = u0 ⊠ v0

abbrev t : Expr
t = u1 ⊠ v1

abbrev w : Expr
w = (((u0 ⊞ u1) ⊠ (v0 ⊞ v1)) ⊞ ⊟ s) ⊞ ⊟ t

abbrev d : Expr
d = a ⊞ (con (pos 2) ⊠ b)

abbrev e : Expr
e = p ⊞ (con (pos 2) ⊠ q)

abbrev m0 : Expr
m0 = d ⊞ e

abbrev m1 : Expr
m1 = c ⊞ r

abbrev m2 : Expr
m2 = ((s ⊞ (con (pos 2) ⊠ t)) ⊞ ⊟ d) ⊞ e

-- the four numerators as the product has them
abbrev xy : Pair (Pair Expr)
xy = formulas.◌⊗◌ x (pair (pair y0 y1) (pair (⊟ y2) (⊟ y3)))

abbrev start : After-y3-1 → Start
start c = c.before.before.before.before.before.before.before.before

pub returns : goal.returns
returns k =
    let h = (start k).requires in
    λ i. is h m0 xy.re.re tt tt i ∷ is h m1 xy.re.im tt tt i ∷ is h m2 xy.im.re tt tt i ∷ equal_is h (w ⊞ ⊟ c) r xy.im.im tt tt tt tt i ∷ []

pub overflow_mul-a : goal.overflow_mul-a
overflow_mul-a k = fits (start k).requires (x0 ⊠ y0) tt

pub overflow_mul-b : goal.overflow_mul-b
overflow_mul-b k = fits (start k).requires (x1 ⊠ y1) tt

pub overflow_mul-c : goal.overflow_mul-c
overflow_mul-c k = fits (start k).requires ((x0 ⊞ x1) ⊠ (y0 ⊞ y1)) tt

pub overflow_sub-c : goal.overflow_sub-c
overflow_sub-c k = fits (start k).requires (((x0 ⊞ x1) ⊠ (y0 ⊞ y1)) ⊞ ⊟ a) tt

pub overflow_sub-c-2 : goal.overflow_sub-c-2
overflow_sub-c-2 k = fits (start k).requires ((((x0 ⊞ x1) ⊠ (y0 ⊞ y1)) ⊞ ⊟ a) ⊞ ⊟ b) tt

pub overflow_mul-p : goal.overflow_mul-p
overflow_mul-p k = fits (start k).requires (x2 ⊠ y2) tt

pub overflow_mul-q : goal.overflow_mul-q
overflow_mul-q k = fits (start k).requires (x3 ⊠ y3) tt

pub overflow_mul-r : goal.overflow_mul-r
overflow_mul-r k = fits (start k).requires ((x2 ⊞ x3) ⊠ (y2 ⊞ y3)) tt

pub overflow_sub-r : goal.overflow_sub-r
overflow_sub-r k = fits (start k).requires (((x2 ⊞ x3) ⊠ (y2 ⊞ y3)) ⊞ ⊟ p) tt

pub overflow_sub-r-2 : goal.overflow_sub-r-2
overflow_sub-r-2 k = fits (start k).requires ((((x2 ⊞ x3) ⊠ (y2 ⊞ y3)) ⊞ ⊟ p) ⊞ ⊟ q) tt

pub overflow_mul-s : goal.overflow_mul-s
overflow_mul-s k = fits (start k).requires (u0 ⊠ v0) tt

pub overflow_mul-t : goal.overflow_mul-t
overflow_mul-t k = fits (start k).requires (u1 ⊠ v1) tt

pub overflow_add-w : goal.overflow_add-w
overflow_add-w k = fits (start k).requires (u0 ⊞ u1) tt

pub overflow_add-w-2 : goal.overflow_add-w-2
overflow_add-w-2 k = fits (start k).requires (v0 ⊞ v1) tt

pub overflow_mul-w : goal.overflow_mul-w
overflow_mul-w k = fits (start k).requires ((u0 ⊞ u1) ⊠ (v0 ⊞ v1)) tt

pub overflow_sub-w : goal.overflow_sub-w
overflow_sub-w k = fits (start k).requires (((u0 ⊞ u1) ⊠ (v0 ⊞ v1)) ⊞ ⊟ s) tt

pub overflow_sub-w-2 : goal.overflow_sub-w-2
overflow_sub-w-2 k = fits (start k).requires ((((u0 ⊞ u1) ⊠ (v0 ⊞ v1)) ⊞ ⊟ s) ⊞ ⊟ t) tt

pub overflow_mul-d : goal.overflow_mul-d
overflow_mul-d k = fits (start k).requires (con (pos 2) ⊠ b) tt

pub overflow_add-d : goal.overflow_add-d
overflow_add-d k = fits (start k).requires (a ⊞ (con (pos 2) ⊠ b)) tt

pub overflow_mul-e : goal.overflow_mul-e
overflow_mul-e k = fits (start k).requires (con (pos 2) ⊠ q) tt

pub overflow_add-e : goal.overflow_add-e
overflow_add-e k = fits (start k).requires (p ⊞ (con (pos 2) ⊠ q)) tt

pub overflow_add-m0 : goal.overflow_add-m0
overflow_add-m0 k = fits (start k).requires (d ⊞ e) tt

pub overflow_add-m1 : goal.overflow_add-m1
overflow_add-m1 k = fits (start k).requires (c ⊞ r) tt

pub overflow_mul-m2 : goal.overflow_mul-m2
overflow_mul-m2 k = fits (start k).requires (con (pos 2) ⊠ t) tt

pub overflow_add-m2 : goal.overflow_add-m2
overflow_add-m2 k = fits (start k).requires (s ⊞ (con (pos 2) ⊠ t)) tt

pub overflow_sub-m2 : goal.overflow_sub-m2
overflow_sub-m2 k = fits (start k).requires ((s ⊞ (con (pos 2) ⊠ t)) ⊞ ⊟ d) tt

pub overflow_add-m2-2 : goal.overflow_add-m2-2
overflow_add-m2-2 k = fits (start k).requires (((s ⊞ (con (pos 2) ⊠ t)) ⊞ ⊟ d) ⊞ e) tt

pub overflow_sub-m3 : goal.overflow_sub-m3
overflow_sub-m3 k = fits (start k).requires (w ⊞ ⊟ c) tt

pub overflow_add-m3 : goal.overflow_add-m3
overflow_add-m3 k = equal-fits (start k).requires (w ⊞ ⊟ c) r xy.im.im tt tt tt tt
