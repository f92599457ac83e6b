-- Sublists, and sums of natural numbers: over a list (`total`) and below a bound.
use mathlib.Core.Path.{◌≡◌, refl, sym, ap, ◌∙◌}
use mathlib.Core.Bool.{Bool, true, false, cond}
use mathlib.Core.List.{List, [], ◌∷◌}
use Prim.Native.Nat.{ℕ, zero, suc, ◌+◌, ◌≤◌, ◌<◌}
use native.Mathlib.Decide.{ℕ_discrete}
use native.Mathlib.Omega.{arith}
use lib.ListN.{take}
use Rattle.algebra.specs.Lists.{All, total, filter_by}
use Rattle.algebra.proofs.Lists.{all_imp}

-- xs is what is left of ys when some elements are dropped
pub data Sub {A : Type 0} : List A → List A → Type 0 where
  stop : (ys : List A) → Sub [] ys
  keep : (x : A) {xs ys : List A} → Sub xs ys → Sub (x ∷ xs) (x ∷ ys)
  skip : (y : A) {xs ys : List A} → Sub xs ys → Sub xs (y ∷ ys)

module _ {A : Type 0} where
  pub sub_total : (f : A → ℕ) {xs ys : List A} → Sub xs ys → total f xs ≤ total f ys
  sub_total f (stop ys) = omega arith
  sub_total f (keep x s) = omega (arith, sub_total f s)
  sub_total f (skip y s) = omega (arith, sub_total f s)

  pub sub_all : (P : A → Type 0) {xs ys : List A} → Sub xs ys → All P ys → All P xs
  sub_all P (stop ys) h = tt
  sub_all P (keep x s) h = (h.0, sub_all P s h.1)
  sub_all P (skip y s) h = sub_all P s h.1

  pub sub_whole : (xs : List A) → Sub xs xs
  sub_whole [] = stop []
  sub_whole (x ∷ xs) = keep x (sub_whole xs)

  pub sub_filter : (p : A → Bool) {xs ys : List A} → Sub xs ys → Sub (filter_by p xs) ys
  sub_filter p (stop ys) = stop ys
  sub_filter p (keep x {xs} {ys} s) = go (p x) (sub_filter p s)
    where
      go : (b : Bool) → Sub (filter_by p xs) ys → Sub (cond b (x ∷ filter_by p xs) (filter_by p xs)) (x ∷ ys)
      go true r = keep x r
      go false r = skip x r
  sub_filter p (skip y s) = skip y (sub_filter p s)

  pub sub_take : (k : ℕ) {xs ys : List A} → Sub xs ys → Sub (take k xs) ys
  sub_take zero {ys} s = stop ys
  sub_take (suc k) (stop ys) = stop ys
  sub_take (suc k) (keep x s) = keep x (sub_take k s)
  sub_take (suc k) (skip y s) = skip y (sub_take (suc k) s)

  pub total_each : (f : A → ℕ) (xs : List A) → All (λ (x : A). f x ≤ total f xs) xs
  total_each f [] = tt
  total_each f (x ∷ xs) = (omega arith, all_imp _ _ xs (λ y h. omega arith) (total_each f xs))

  pub total_grow : (f g : A → ℕ) → ((x : A) → f x ≤ g x) → (xs : List A) → total f xs ≤ total g xs
  total_grow f g h [] = omega arith
  total_grow f g h (x ∷ xs) = omega (arith, h x, total_grow f g h xs)

  pub total-two : (s f g : A → ℕ) → ((x : A) → s x + s x ≤ f x + g x) → (xs : List A) → total s xs + total s xs ≤ total f xs + total g xs
  total-two s f g h [] = omega arith
  total-two s f g h (x ∷ xs) = omega (arith, h x, total-two s f g h xs)

-- f 0 + f 1 + .. + f (n − 1)
abbrev pub nsum : ℕ → (ℕ → ℕ) → ℕ
nsum zero f = 0
nsum (suc n) f = nsum n f + f n

pub nsum_each : (n : ℕ) (f : ℕ → ℕ) (k : ℕ) → k < n → f k ≤ nsum n f
nsum_each zero f k l = absurd (omega arith)
nsum_each (suc n) f k l = go (ℕ_discrete k n) (λ (m : k < n). nsum_each n f k m)
  where
    go : Dec (k ≡ n) → (k < n → f k ≤ nsum n f) → f k ≤ nsum n f + f n
    go (yes e) r = let h : f k ≡ f n = ap f e in omega arith
    go (no e) r = omega (arith, r (omega arith))

pub nsum_grow : (m n : ℕ) (f : ℕ → ℕ) → m ≤ n → nsum m f ≤ nsum n f
nsum_grow m zero f l = let e : m ≡ 0 = omega arith in rw e (omega arith)
nsum_grow m (suc n) f l = go (ℕ_discrete m (suc n)) (λ (k : m ≤ n). nsum_grow m n f k)
  where
    go : Dec (m ≡ suc n) → (m ≤ n → nsum m f ≤ nsum n f) → nsum m f ≤ nsum n f + f n
    go (yes e) r = rw e (omega arith)
    go (no e) r = omega (arith, r (omega arith))

pub nsum-two : (n : ℕ) (s f g : ℕ → ℕ) → ((k : ℕ) → k < n → s k + s k ≤ f k + g k) → nsum n s + nsum n s ≤ nsum n f + nsum n g
nsum-two zero s f g h = omega arith
nsum-two (suc n) s f g h = omega (arith, h n (omega arith), nsum-two n s f g (λ k l. h k (omega arith)))

-- the order of two sums
pub nsum-total : {A : Type 0} (n : ℕ) (f : ℕ → A → ℕ) (xs : List A) → nsum n (λ (k : ℕ). total (f k) xs) ≡ total (λ (x : A). nsum n (λ (k : ℕ). f k x)) xs
nsum-total {A} zero f xs = sym (zeros xs)
  where
    zeros : (xs : List A) → total (λ (x : A). 0) xs ≡ 0
    zeros [] = refl
    zeros (x ∷ xs) = zeros-step (zeros xs)
      where
        zeros-step : total (λ (x : A). 0) xs ≡ 0 → 0 + total (λ (x : A). 0) xs ≡ 0
        zeros-step e = omega arith
nsum-total {A} (suc n) f xs = ap (λ (k : ℕ). k + total (f n) xs) (nsum-total n f xs) ∙ sym (both (λ (x : A). nsum n (λ (k : ℕ). f k x)) (f n) xs)
  where
    both : (g h : A → ℕ) (xs : List A) → total (λ (x : A). g x + h x) xs ≡ total g xs + total h xs
    both g h [] = omega arith
    both g h (x ∷ xs) = omega (arith, both g h xs)
