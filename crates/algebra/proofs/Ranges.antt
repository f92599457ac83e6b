-- A test of each word of a range.
use Rattle.std.specs.List.{list_all}
use Rattle.std.proofs.lemmas.List.Folds.{list_all_more}
use mathlib.Core.Path.{◌≡◌, refl, sym, ap, ap₂, ◌∙◌}
use mathlib.Core.Bool.{Bool, ◌&&◌}
use mathlib.Core.List.{List}
use Prim.Native.Nat.{ℕ, zero, suc, ◌+◌, ◌≤◌, ◌<◌}
use native.Mathlib.Numerals.{add-one}
use native.Mathlib.Omega.{arith}
use lib.ListN.{length, get_or, take, drop, length-drop}
use lib.Seq.{get_or-drop}
use lib.IntN.{ℤ, pos}
use Rattle.algebra.specs.Lists.{all_below}

pub all_in : (p : ℤ → Bool) (l : List ℤ) (at n : ℕ) → at + n ≤ length l → list_all p (take n (drop at l)) ≡ all_below n (λ (k : ℕ). p (get_or l (at + k) (pos 0)))
all_in p l at zero h = refl
all_in p l at (suc n) h =
    let inside : n < length (drop at l) = omega (arith, length-drop at l) in
    ap (λ (k : ℕ). list_all p (take k (drop at l))) (sym (add-one n)) ∙ list_all_more p (drop at l) n (pos 0) inside
    ∙ ap₂ ◌&&◌ (all_in p l at n (omega arith)) (ap p (get_or-drop at l n (pos 0)))
