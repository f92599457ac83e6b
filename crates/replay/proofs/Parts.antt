-- Parts of a list that are asked for beyond its end.
use mathlib.Core.Path.{◌≡◌, refl, sym, ap, ◌∙◌}
use mathlib.Core.Bool.{Bool, true, false}
use mathlib.Core.List.{List}
use Prim.Native.Nat.{ℕ, ◌≤◌, min}
use native.Mathlib.Omega.{arith}
use lib.Dec.{leb}
use lib.ListN.{length, take, drop, replicate, length-replicate, drop_of_length-le}
use lib.Seq.{take_all}
use borrow.Author.Tests.{leb-true, leb-false}

pub fitted_less : (n most : ℕ) {x : ℕ} → x ≡ min n most → x ≤ most
fitted_less n most p = omega arith

pub take-fitting : {A : Type 0} (k n : ℕ) (l : List A) → k ≡ min n (length l) → take k l ≡ take n l
take-fitting {A} k n l e = by (leb n (length l)) refl
  where
    by : (b : Bool) → leb n (length l) ≡ b → take k l ≡ take n l
    by true q = let h = leb-true n (length l) q in let p : k ≡ n = omega arith in ap (λ (j : ℕ). take j l) p
    by false q = let h = leb-false n (length l) q in take_all k l (omega arith) ∙ sym (take_all n l (omega arith))

pub drop-fitting : {A : Type 0} (k n : ℕ) (l : List A) → k ≡ min n (length l) → drop k l ≡ drop n l
drop-fitting {A} k n l e = by (leb n (length l)) refl
  where
    by : (b : Bool) → leb n (length l) ≡ b → drop k l ≡ drop n l
    by true q = let h = leb-true n (length l) q in let p : k ≡ n = omega arith in ap (λ (j : ℕ). drop j l) p
    by false q = let h = leb-false n (length l) q in drop_of_length-le l (omega arith) ∙ sym (drop_of_length-le l (omega arith))

-- of a room that is made with one value throughout
pub take-room : {A : Type 0} (k n room : ℕ) (z : A) → k ≡ min n room → take k (replicate room z) ≡ take n (replicate room z)
take-room k n room z e = take-fitting k n (replicate room z) (e ∙ ap (min n) (sym (length-replicate room z)))
