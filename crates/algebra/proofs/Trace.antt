-- Traces: lists up to swaps of neighbours that do not share. What is counted, tested or folded along a list is kept by them.
use mathlib.Core.Path.{◌≡◌, refl, ap, ap₂, ◌∙◌}
use mathlib.Core.Bool.{Bool, true, false, cond, ◌&&◌, ◌||◌}
use mathlib.Core.List.{List, [], ◌∷◌, foldl}
use Prim.Native.Nat.{ℕ, zero, suc, ◌+◌}
use native.Mathlib.Omega.{arith}
use lib.ListN.{length}
use Rattle.algebra.specs.Lists.{All, every, some, total, marks}

module _ {A : Type 0} where
  pub data Trace (share : A → A → Bool) : List A → List A → Type 0 where
    nil : Trace share [] []
    keep : (a : A) {xs ys : List A} → Trace share xs ys → Trace share (a ∷ xs) (a ∷ ys)
    swap : (a b : A) {xs : List A} → share a b ≡ false → Trace share (a ∷ b ∷ xs) (b ∷ a ∷ xs)
    join : {xs ys zs : List A} → Trace share xs ys → Trace share ys zs → Trace share xs zs

  module _ {share : A → A → Bool} where
    pub same : (xs : List A) → Trace share xs xs
    same [] = nil
    same (x ∷ xs) = keep x (same xs)

    pub all_of : (P : A → Type 0) {xs ys : List A} → Trace share xs ys → All P xs → All P ys
    all_of P nil h = h
    all_of P (keep a t) h = (h.0, all_of P t h.1)
    all_of P (swap a b e) h = (h.1.0, (h.0, h.1.1))
    all_of P (join t u) h = all_of P u (all_of P t h)

    pub all_back : (P : A → Type 0) {xs ys : List A} → Trace share xs ys → All P ys → All P xs
    all_back P nil h = h
    all_back P (keep a t) h = (h.0, all_back P t h.1)
    all_back P (swap a b e) h = (h.1.0, (h.0, h.1.1))
    all_back P (join t u) h = all_back P t (all_back P u h)

    pub every_of : (p : A → Bool) {xs ys : List A} → Trace share xs ys → every p xs ≡ every p ys
    every_of p nil = refl
    every_of p (keep a t) = ap (λ (b : Bool). p a && b) (every_of p t)
    every_of p (swap a b {xs} e) = and_swap (p a) (p b) (every p xs)
      where
        and_swap : (x y z : Bool) → x && (y && z) ≡ y && (x && z)
        and_swap true y z = refl
        and_swap false true z = refl
        and_swap false false z = refl
    every_of p (join t u) = every_of p t ∙ every_of p u

    pub some_of : (p : A → Bool) {xs ys : List A} → Trace share xs ys → some p xs ≡ some p ys
    some_of p nil = refl
    some_of p (keep a t) = ap (λ (b : Bool). p a || b) (some_of p t)
    some_of p (swap a b {xs} e) = or_swap (p a) (p b) (some p xs)
      where
        or_swap : (x y z : Bool) → x || (y || z) ≡ y || (x || z)
        or_swap true true z = refl
        or_swap true false z = refl
        or_swap false y z = refl
    some_of p (join t u) = some_of p t ∙ some_of p u

    -- how many marks below n some element has
    pub marks-of : (n : ℕ) (m : A → ℕ → Bool) {xs ys : List A} → Trace share xs ys → marks n m xs ≡ marks n m ys
    marks-of zero m t = refl
    marks-of (suc n) m t = ap₂ ◌+◌ (marks-of n m t) (ap (λ (b : Bool). cond b 1 0) (some_of (λ (a : A). m a n) t))

    pub length-of : {xs ys : List A} → Trace share xs ys → length xs ≡ length ys
    length-of nil = refl
    length-of (keep a t) = ap suc (length-of t)
    length-of (swap a b e) = refl
    length-of (join t u) = length-of t ∙ length-of u

    pub total_of : (w : A → ℕ) {xs ys : List A} → Trace share xs ys → total w xs ≡ total w ys
    total_of w nil = refl
    total_of w (keep a t) = ap (λ (n : ℕ). w a + n) (total_of w t)
    total_of w (swap a b e) = omega arith
    total_of w (join t u) = total_of w t ∙ total_of w u

-- steps of which neighbours that share nothing may change places, up to an equivalence of states
module _ {A S : Type 0} (share : A → A → Bool) (act : S → A → S) (Good : A → Type 0) (◌≈◌ : S → S → Type 0)
    (≈-refl : (s : S) → s ≈ s) (≈-trans : (s t u : S) → s ≈ t → t ≈ u → s ≈ u)
    (respects : (a : A) (s t : S) → s ≈ t → act s a ≈ act t a)
    (commutes : (a b : A) → Good a → Good b → share a b ≡ false → (s : S) → act (act s a) b ≈ act (act s b) a) where
  infix 4 ◌≈◌
  foldl_respects : (xs : List A) (s t : S) → s ≈ t → foldl act s xs ≈ foldl act t xs
  foldl_respects [] s t h = h
  foldl_respects (x ∷ xs) s t h = foldl_respects xs (act s x) (act t x) (respects x s t h)

  pub foldl_of : {xs ys : List A} → Trace share xs ys → All Good xs → (s : S) → foldl act s xs ≈ foldl act s ys
  foldl_of nil h s = ≈-refl s
  foldl_of (keep a t) h s = foldl_of t h.1 (act s a)
  foldl_of (swap a b {xs} e) h s = foldl_respects xs (act (act s a) b) (act (act s b) a) (commutes a b h.0 h.1.0 e s)
  foldl_of (join {xs} {ys} {zs} t u) h s = ≈-trans (foldl act s xs) (foldl act s ys) (foldl act s zs) (foldl_of t h s) (foldl_of u (all_of Good t h) s)
