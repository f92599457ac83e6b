-- A bound on the size of an integer expression, computed from bounds on its variables.
use mathlib.Core.List.{List, [], ◌∷◌}
use Prim.Native.Nat.{ℕ, zero, suc, ◌+◌, ◌*◌, ◌≤◌, ◌^◌, zero-le}
use native.Mathlib.Omega.{arith}
use native.Mathlib.Nat as NatL
use lib.Dec.{T, ltb, ltb→lt}
use lib.IntN.{ℤ, pos, nat_abs}
use mir.Syntax.{Width}
use mir.Val.{SFits, hbits}
use Rattle.algebra.proofs.Ring.{ℤR}
use Rattle.algebra.proofs.Solver.{Expr, con, var, held, ◌⊞◌, ◌⊠◌, ⊟, look, ⟦◌⟧}
use Rattle.algebra.proofs.Parts.{abs-add, abs-mul, abs_neg, sfits_abs}

abbrev pub bnd : (ℕ → ℕ) → Expr → ℕ
bnd b (con c) = nat_abs c
bnd b (var i) = b i
bnd b (held i) = b i
bnd b (x ⊞ y) = bnd b x + bnd b y
bnd b (x ⊠ y) = bnd b x * bnd b y
bnd b (⊟ x) = bnd b x

-- each number is at most its bound in size
abbrev pub Within : List ℤ → List ℕ → Type 0
Within [] bs = Unit {0}
Within (x ∷ xs) [] = ⊥
Within (x ∷ xs) (b ∷ bs) = (nat_abs x ≤ b) × Within xs bs

within : (xs : List ℤ) (bs : List ℕ) → Within xs bs → (i : ℕ) → nat_abs (look (pos 0) xs i) ≤ look 0 bs i
within [] bs h i = zero-le
within (x ∷ xs) [] h i = absurd h
within (x ∷ xs) (b ∷ bs) h zero = h.0
within (x ∷ xs) (b ∷ bs) h (suc i) = within xs bs h.1 i

bound_is : (ρ : ℕ → ℤ) (b : ℕ → ℕ) → ((i : ℕ) → nat_abs (ρ i) ≤ b i) → (e : Expr) → nat_abs (⟦◌⟧ ℤR ρ e) ≤ bnd b e
bound_is ρ b h (con c) = NatL.le_refl (nat_abs c)
bound_is ρ b h (var i) = h i
bound_is ρ b h (held i) = h i
bound_is ρ b h (x ⊞ y) = omega (arith, abs-add (⟦◌⟧ ℤR ρ x) (⟦◌⟧ ℤR ρ y), bound_is ρ b h x, bound_is ρ b h y)
bound_is ρ b h (x ⊠ y) = rw abs-mul (NatL.mul-le-mul (bound_is ρ b h x) (bound_is ρ b h y))
bound_is ρ b h (⊟ x) = rw abs_neg (bound_is ρ b h x)

pub bounded : (xs : List ℤ) (bs : List ℕ) (e : Expr) → Within xs bs → nat_abs (⟦◌⟧ ℤR (look (pos 0) xs) e) ≤ bnd (look 0 bs) e
bounded xs bs e h = bound_is (look (pos 0) xs) (look 0 bs) (within xs bs h) e

-- the expression fits a signed width: the last argument is `tt`
pub bounded_fits : (w : Width) (xs : List ℤ) (bs : List ℕ) (e : Expr) → Within xs bs → T (ltb (bnd (look 0 bs) e) (2 ^ hbits w)) → SFits w (⟦◌⟧ ℤR (look (pos 0) xs) e)
bounded_fits w xs bs e h t = sfits_abs (NatL.lt_of_le_of_lt (bounded xs bs e h) (ltb→lt (bnd (look 0 bs) e) (2 ^ hbits w) t))
