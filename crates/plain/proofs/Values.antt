-- What holds of the numbers that a small matrix is made of holds of its entries.
use mathlib.Core.Bool.{Bool, true, false, cond, ◌&&◌}
use mathlib.Core.List.{List, [], ◌∷◌}
use Prim.Native.Nat.{ℕ}
use lib.Dec.{eqb}
use lib.ListN.{get_or}
use Rattle.exact.specs.Exact.{Exact}
use Rattle.gate.specs.Operators.{Small, one, none, two, same_bits, identity, controlled, swapped}

module _ (P : Exact → Type 0) where
  abbrev pub Each : Small → Type 0
  Each u = (xs ys : List ℕ) → P (u xs ys)

  pub choose : (b : Bool) (p q : Exact) → P p → P q → P (cond b p q)
  choose true p q h k = h
  choose false p q h k = k

  pub each_two : (p q r s : Exact) → P p → P q → P r → P s → Each (two p q r s)
  each_two p q r s hp hq hr hs xs ys =
      choose (eqb (get_or xs 0 0) 0) (cond (eqb (get_or ys 0 0) 0) p q) (cond (eqb (get_or ys 0 0) 0) r s)
      (choose (eqb (get_or ys 0 0) 0) p q hp hq) (choose (eqb (get_or ys 0 0) 0) r s hr hs)

  module _ (h : P one) (z : P none) where
    pub each_controlled : (u : Small) → Each u → Each (controlled u)
    each_controlled u k [] ys = z
    each_controlled u k (x ∷ xs) [] = z
    each_controlled u k (x ∷ xs) (y ∷ ys) =
        choose (eqb x y) (cond (eqb x 1) (u xs ys) (identity xs ys)) none
        (choose (eqb x 1) (u xs ys) (identity xs ys) (k xs ys) (choose (same_bits xs ys) one none h z)) z

    pub each_swapped : Each swapped
    each_swapped xs ys = choose (eqb (get_or xs 0 0) (get_or ys 1 0) && eqb (get_or xs 1 0) (get_or ys 0 0)) one none h z
