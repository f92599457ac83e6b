-- A list of which no two elements meet: the order of its elements plays no part, and every two are read off by their places.
use mathlib.Core.Path.{◌≡◌, refl, sym, ap, ap₂, ◌∙◌}
use mathlib.Core.Bool.{Bool, true, false, not, ◌&&◌, ◌||◌}
use mathlib.Core.List.{List, [], ◌∷◌}
use Prim.Native.Nat.{ℕ, zero, suc, ◌<◌}
use native.Mathlib.Omega.{arith}
use lib.ListN.{length, get_or}
use Rattle.algebra.specs.Lists.{some}
use Rattle.algebra.proofs.Tests.{and_split, or_no}
use Rattle.algebra.proofs.Trace.{Trace, nil, keep, swap, join}

module _ {A : Type 0} (meets : A → A → Bool) where
  -- no element meets one before it, nor one of `before`
  abbrev pub free : List A → List A → Bool
  free before [] = true
  free before (x ∷ xs) = not (some (meets x) before) && free (x ∷ before) xs

  free-same : (us vs xs : List A) → ((q : A → Bool) → some q us ≡ some q vs) → free us xs ≡ free vs xs
  free-same us vs [] h = refl
  free-same us vs (x ∷ xs) h = ap₂ (λ (b c : Bool). not b && c) (h (meets x)) (free-same (x ∷ us) (x ∷ vs) xs (λ q. ap (λ (b : Bool). q x || b) (h q)))

  or_swap : (x y z : Bool) → x || (y || z) ≡ y || (x || z)
  or_swap true true z = refl
  or_swap true false z = refl
  or_swap false y z = refl

  module _ (either : (a b : A) → meets a b ≡ meets b a) {share : A → A → Bool} where
    pub free_of : {xs ys : List A} → Trace share xs ys → (us : List A) → free us xs ≡ free us ys
    free_of nil us = refl
    free_of (keep a t) us = ap (λ (b : Bool). not (some (meets a) us) && b) (free_of t (a ∷ us))
    free_of (swap a b {xs} e) us =
        (λ i. not (some (meets a) us) && (not (either b a i || some (meets b) us) && free-same (b ∷ a ∷ us) (a ∷ b ∷ us) xs (λ q. or_swap (q b) (q a) (some q us)) i))
        ∙ turn (some (meets a) us) (some (meets b) us) (meets a b) (free (a ∷ b ∷ us) xs)
      where
        turn : (x y z w : Bool) → not x && (not (z || y) && w) ≡ not y && (not (z || x) && w)
        turn true true z w = refl
        turn true false true w = refl
        turn true false false w = refl
        turn false true true w = refl
        turn false true false w = refl
        turn false false z w = refl
    free_of (join t u) us = free_of t us ∙ free_of u us

  module _ (d : A) where
    -- element j meets none of those before it
    record Alone (us xs : List A) (j : ℕ) : Type 0 where
      pub outside : some (meets (get_or xs j d)) us ≡ false
      pub inside : (i : ℕ) → i < j → meets (get_or xs j d) (get_or xs i d) ≡ false

    no : (b : Bool) → not b ≡ true → b ≡ false
    no true e = sym e
    no false e = refl

    alone : (us xs : List A) → free us xs ≡ true → (j : ℕ) → j < length xs → Alone us xs j
    alone us [] e j l = absurd (omega arith)
    alone us (x ∷ xs) e zero l = record { outside = no (some (meets x) us) (and_split (not (some (meets x) us)) (free (x ∷ us) xs) e).0; inside = λ i l. absurd (omega arith) }
    alone us (x ∷ xs) e (suc j) l =
        let h : Alone (x ∷ us) xs j = alone (x ∷ us) xs (and_split (not (some (meets x) us)) (free (x ∷ us) xs) e).1 j (omega arith) in
        let (p, q) = or_no (meets (get_or xs j d) x) (some (meets (get_or xs j d)) us) h.outside in
        record { outside = q; inside = pairs p h.inside }
      where
        pairs : meets (get_or xs j d) x ≡ false → ((i : ℕ) → i < j → meets (get_or xs j d) (get_or xs i d) ≡ false) → (i : ℕ) → i < suc j → meets (get_or xs j d) (get_or (x ∷ xs) i d) ≡ false
        pairs p h zero l = p
        pairs p h (suc i) l = h i (omega arith)

    pub free-pairs : (xs : List A) → free [] xs ≡ true → (i j : ℕ) → i < j → j < length xs → meets (get_or xs j d) (get_or xs i d) ≡ false
    free-pairs xs e i j l h = (alone [] xs e j h).inside i l
