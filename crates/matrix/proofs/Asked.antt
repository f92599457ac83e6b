-- A test of each number below n, by the list of them.
use mathlib.Core.Path.{◌≡◌, refl, sym, ap, ap₂, ◌∙◌}
use mathlib.Core.Bool.{Bool, ◌&&◌, and-true}
use mathlib.Core.List.{List, [], ◌∷◌}
use Prim.Native.Nat.{ℕ, zero, suc}
use native.Mathlib.Omega.{arith}
use native.Mathlib.Numerals.{add-one}
use Rattle.std.specs.Prelude.{map}
use Rattle.std.specs.List.{list_all, range_with_len}
use Rattle.std.proofs.lemmas.List.Folds.{list_all-append, list_all-map}
use Rattle.std.proofs.lemmas.List.FromFn.{map-range_with_len_more}
use Rattle.algebra.specs.Lists.{all_below}

module _ (p : ℕ → Bool) where
  abbrev same : Bool → Bool
  same b = b

  abbrev answers : ℕ → List Bool
  answers n = map p (range_with_len 0 n)

  each : (n : ℕ) → list_all same (answers n) ≡ all_below n p
  each zero = refl
  each (suc n) =
      ap (λ (k : ℕ). list_all same (answers k)) (sym (add-one n)) ∙ ap (list_all same) (map-range_with_len_more p 0 n n (omega arith))
      ∙ list_all-append same (answers n) (p n ∷ []) ∙ ap₂ ◌&&◌ (each n) (and-true (p n))

  pub all_asked : (n : ℕ) → list_all p (range_with_len 0 n) ≡ all_below n p
  all_asked n = sym (list_all-map same p (range_with_len 0 n)) ∙ each n
