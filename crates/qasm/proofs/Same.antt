-- Two texts that are the same, byte by byte.
use mathlib.Core.Path.{◌≡◌, refl, sym, ap, ap₂}
use mathlib.Core.Bool.{Bool, true, ◌&&◌, true≢false}
use mathlib.Core.List.{List, [], ◌∷◌}
use Prim.Native.Nat.{ℕ, ◌≤◌}
use native.Mathlib.Omega.{arith}
use lib.Dec.{eqb}
use lib.ListN.{length, take, length-take}
use borrow.Author.Tests.{eqb-true}
use Rattle.std.specs.Cmp.Lexicographic.{pointwise}
use Rattle.algebra.proofs.Tests.{and_split}
use Rattle.qasm.specs.Tokens.{same, begins}

pub same_true : (xs ys : List ℕ) → same xs ys ≡ true → xs ≡ ys
same_true [] [] e = refl
same_true [] (y ∷ ys) e = absurd (true≢false (sym e))
same_true (x ∷ xs) [] e = absurd (true≢false (sym e))
same_true (x ∷ xs) (y ∷ ys) e = let (h, t) = and_split (eqb x y) (same xs ys) e in ap₂ ◌∷◌ (eqb-true x y h) (same_true xs ys t)

-- what std compares at each place
pub same_pointwise : (xs ys : List ℕ) → pointwise eqb xs ys ≡ same xs ys
same_pointwise [] [] = refl
same_pointwise [] (y ∷ ys) = refl
same_pointwise (x ∷ xs) [] = refl
same_pointwise (x ∷ xs) (y ∷ ys) = ap (λ (c : Bool). eqb x y && c) (same_pointwise xs ys)

pub begins_long : (s bs : List ℕ) → begins s bs ≡ true → length s ≤ length bs
begins_long s bs e = let q = ap length (same_true s (take (length s) bs) e) in let l = length-take (length s) bs in omega arith
