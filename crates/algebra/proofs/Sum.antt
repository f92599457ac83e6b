-- Finite sums over a commutative semiring whose zero is neutral for products, and products of matrices as sums.
use mathlib.Core.Path.{◌≡◌, refl, sym, ap, ap₂, ◌∙◌}
use mathlib.Core.Logic.{◌≢◌}
use mathlib.Core.Bool.{Bool, true, false, cond}
use mathlib.Core.List.{List, [], ◌∷◌, ◌++◌, map, foldl}
use Prim.Native.Nat.{ℕ, zero, suc, ◌<◌}
use native.Mathlib.Decide.{ℕ_discrete}
use native.Mathlib.Omega.{arith}
use Rattle.algebra.specs.Sum.{sum, list_sum, times}
use Rattle.algebra.specs.Lists.{All, filter_by, concat_map}
use Rattle.algebra.proofs.Semi.{Semi, add-zero, zero-zero, zero-mul, add-mul, add-four}

module _ (𝓡 : Semi) where
  infixl 60 ◌⊕◌
  infixl 70 ◌⊗◌
  open 𝓡 use {R, ops, add_assoc, add_comm, zero-add, mul_assoc, mul_comm, mul-add, mul_zero}
  open 𝓡.ops use {𝟘, ◌⊕◌, ◌⊗◌}

  pub sum_same : (n : ℕ) (f g : ℕ → R) → ((k : ℕ) → k < n → f k ≡ g k) → sum ops n f ≡ sum ops n g
  sum_same zero f g h = refl
  sum_same (suc n) f g h = ap₂ ◌⊕◌ (sum_same n f g (λ k l. h k (omega arith))) (h n (omega arith))

  pub sum-zero : (n : ℕ) (f : ℕ → R) → ((k : ℕ) → k < n → f k ≡ 𝟘) → sum ops n f ≡ 𝟘
  sum-zero zero f h = refl
  sum-zero (suc n) f h = ap₂ ◌⊕◌ (sum-zero n f (λ k l. h k (omega arith))) (h n (omega arith)) ∙ zero-zero 𝓡

  -- a sum of products with one term
  pub sum_one : (n i : ℕ) (f g : ℕ → R) → i < n → ((k : ℕ) → k < n → k ≢ i → f k ⊗ g k ≡ 𝟘) → sum ops n (λ (k : ℕ). f k ⊗ g k) ≡ f i ⊗ g i
  sum_one zero i f g l h = absurd (omega arith)
  sum_one (suc n) i f g l h = go (ℕ_discrete i n) (λ (m : i < n). sum_one n i f g m (λ k j e. h k (omega arith) e))
    where
      go : Dec (i ≡ n) → (i < n → sum ops n (λ (k : ℕ). f k ⊗ g k) ≡ f i ⊗ g i) → sum ops n (λ (k : ℕ). f k ⊗ g k) ⊕ f n ⊗ g n ≡ f i ⊗ g i
      go (yes e) r =
          ap₂ ◌⊕◌ (sum-zero n (λ (k : ℕ). f k ⊗ g k) (λ k j. h k (omega arith) (omega arith))) (ap (λ (k : ℕ). f k ⊗ g k) (sym e)) ∙ zero-add (f i) (g i)
      go (no e) r = ap₂ ◌⊕◌ (r (omega arith)) (h n (omega arith) (λ x. e (sym x))) ∙ add-zero 𝓡 (f i) (g i)

  -- a sum of which all terms but two are zero
  pub sum-two : (n i j : ℕ) (f g : ℕ → R) → i < n → j < n → i ≢ j → ((k : ℕ) → k < n → k ≢ i → k ≢ j → f k ⊗ g k ≡ 𝟘) → sum ops n (λ (k : ℕ). f k ⊗ g k) ≡ f i ⊗ g i ⊕ f j ⊗ g j
  sum-two zero i j f g l m e h = absurd (omega arith)
  sum-two (suc n) i j f g l m e h = go (ℕ_discrete i n) (ℕ_discrete j n) (λ l m. sum-two n i j f g l m e (λ k p. h k (omega arith)))
    where
      go : Dec (i ≡ n) → Dec (j ≡ n) → (i < n → j < n → sum ops n (λ (k : ℕ). f k ⊗ g k) ≡ f i ⊗ g i ⊕ f j ⊗ g j)
          → sum ops n (λ (k : ℕ). f k ⊗ g k) ⊕ f n ⊗ g n ≡ f i ⊗ g i ⊕ f j ⊗ g j
      go (yes p) (yes q) r = absurd (e (p ∙ sym q))
      go (yes p) (no q) r =
          ap₂ ◌⊕◌ (sum_one n j f g (omega arith) (λ k a b. h k (omega arith) (omega arith) b)) (ap (λ (k : ℕ). f k ⊗ g k) (sym p)) ∙ add_comm (f j ⊗ g j) (f i ⊗ g i)
      go (no p) (yes q) r = ap₂ ◌⊕◌ (sum_one n i f g (omega arith) (λ k a b. h k (omega arith) b (omega arith))) (ap (λ (k : ℕ). f k ⊗ g k) (sym q))
      go (no p) (no q) r =
          ap₂ ◌⊕◌ (r (omega arith) (omega arith)) (h n (omega arith) (λ x. p (sym x)) (λ x. q (sym x)))
          ∙ add_assoc (f i ⊗ g i) (f j ⊗ g j) 𝟘 ∙ ap (λ (x : R). f i ⊗ g i ⊕ x) (add-zero 𝓡 (f j) (g j))

  pub sum-add : (n : ℕ) (f g : ℕ → R) → sum ops n (λ (k : ℕ). f k ⊕ g k) ≡ sum ops n f ⊕ sum ops n g
  sum-add zero f g = sym (zero-zero 𝓡)
  sum-add (suc n) f g = ap (λ (x : R). x ⊕ (f n ⊕ g n)) (sum-add n f g) ∙ add-four 𝓡 (sum ops n f) (sum ops n g) (f n) (g n)

  pub mul-sum : (n : ℕ) (a : R) (f : ℕ → R) → a ⊗ sum ops n f ≡ sum ops n (λ (k : ℕ). a ⊗ f k)
  mul-sum zero a f = mul_zero a
  mul-sum (suc n) a f = mul-add a (sum ops n f) (f n) ∙ ap (λ (x : R). x ⊕ a ⊗ f n) (mul-sum n a f)

  pub sum-mul : (n : ℕ) (f : ℕ → R) (a : R) → sum ops n f ⊗ a ≡ sum ops n (λ (k : ℕ). f k ⊗ a)
  sum-mul zero f a = zero-mul 𝓡 a
  sum-mul (suc n) f a = add-mul 𝓡 (sum ops n f) (f n) a ∙ ap (λ (x : R). x ⊕ f n ⊗ a) (sum-mul n f a)

  pub sum-swap : (n m : ℕ) (f : ℕ → ℕ → R) → sum ops n (λ (i : ℕ). sum ops m (f i)) ≡ sum ops m (λ (j : ℕ). sum ops n (λ (i : ℕ). f i j))
  sum-swap zero m f = sym (sum-zero m (λ (j : ℕ). 𝟘) (λ k l. refl))
  sum-swap (suc n) m f = ap (λ (x : R). x ⊕ sum ops m (f n)) (sum-swap n m f) ∙ sym (sum-add m (λ (j : ℕ). sum ops n (λ (i : ℕ). f i j)) (f n))

  pub times-same : (d : ℕ) (G G' H H' : ℕ → ℕ → R) (r c : ℕ) → ((k : ℕ) → k < d → G r k ≡ G' r k) → ((k : ℕ) → k < d → H k c ≡ H' k c)
      → times ops d G H r c ≡ times ops d G' H' r c
  times-same d G G' H H' r c g h = sum_same d _ _ (λ k l. ap₂ ◌⊗◌ (g k l) (h k l))

  pub times_assoc : (d : ℕ) (G H M : ℕ → ℕ → R) (r c : ℕ) → times ops d G (times ops d H M) r c ≡ times ops d (times ops d G H) M r c
  times_assoc d G H M r c =
      sum_same d _ _ (λ k l. mul-sum d (G r k) (λ (j : ℕ). H k j ⊗ M j c))
      ∙ sum-swap d d (λ (k j : ℕ). G r k ⊗ (H k j ⊗ M j c))
      ∙ sum_same d _ _ (λ j l. sum_same d _ _ (λ k m. sym (mul_assoc (G r k) (H k j) (M j c))) ∙ sym (sum-mul d (λ (k : ℕ). G r k ⊗ H k j) (M j c)))

  pub zero-sum : (n : ℕ) (f : ℕ → R) → 𝟘 ⊕ sum ops n f ≡ sum ops n f
  zero-sum zero f = zero-zero 𝓡
  zero-sum (suc n) f = sym (add_assoc 𝟘 (sum ops n f) (f n)) ∙ ap (λ (x : R). x ⊕ f n) (zero-sum n f)

  module _ {A : Type 0} where
    pub zero-list_sum : (φ : A → R) (xs : List A) → 𝟘 ⊕ list_sum ops φ xs ≡ list_sum ops φ xs
    zero-list_sum φ [] = zero-zero 𝓡
    zero-list_sum φ (x ∷ xs) =
        sym (add_assoc 𝟘 (φ x) (list_sum ops φ xs)) ∙ ap (λ (y : R). y ⊕ list_sum ops φ xs) (add_comm 𝟘 (φ x)) ∙ add_assoc (φ x) 𝟘 (list_sum ops φ xs) ∙ ap (λ (y : R). φ x ⊕ y) (zero-list_sum φ xs)

    pub list_sum_append : (φ : A → R) (xs ys : List A) → list_sum ops φ (xs ++ ys) ≡ list_sum ops φ xs ⊕ list_sum ops φ ys
    list_sum_append φ [] ys = sym (zero-list_sum φ ys)
    list_sum_append φ (x ∷ xs) ys = ap (λ (y : R). φ x ⊕ y) (list_sum_append φ xs ys) ∙ sym (add_assoc (φ x) (list_sum ops φ xs) (list_sum ops φ ys))

    pub list_sum-all : (φ ψ : A → R) (xs : List A) → All (λ (x : A). φ x ≡ ψ x) xs → list_sum ops φ xs ≡ list_sum ops ψ xs
    list_sum-all φ ψ [] h = refl
    list_sum-all φ ψ (x ∷ xs) h = ap₂ ◌⊕◌ h.0 (list_sum-all φ ψ xs h.1)

    pub list_sum-same : (φ ψ : A → R) (xs : List A) → ((x : A) → φ x ≡ ψ x) → list_sum ops φ xs ≡ list_sum ops ψ xs
    list_sum-same φ ψ [] h = refl
    list_sum-same φ ψ (x ∷ xs) h = ap₂ ◌⊕◌ (h x) (list_sum-same φ ψ xs h)

    pub list_sum-zero : (φ : A → R) (xs : List A) → ((x : A) → φ x ≡ 𝟘) → list_sum ops φ xs ≡ 𝟘
    list_sum-zero φ [] h = refl
    list_sum-zero φ (x ∷ xs) h = ap₂ ◌⊕◌ (h x) (list_sum-zero φ xs h) ∙ zero-zero 𝓡

    pub list_sum-add : (φ ψ : A → R) (xs : List A) → list_sum ops (λ (x : A). φ x ⊕ ψ x) xs ≡ list_sum ops φ xs ⊕ list_sum ops ψ xs
    list_sum-add φ ψ [] = sym (zero-zero 𝓡)
    list_sum-add φ ψ (x ∷ xs) = ap (λ (y : R). (φ x ⊕ ψ x) ⊕ y) (list_sum-add φ ψ xs) ∙ add-four 𝓡 (φ x) (ψ x) (list_sum ops φ xs) (list_sum ops ψ xs)

    pub list_sum-mul : (φ : A → R) (xs : List A) (a : R) → list_sum ops φ xs ⊗ a ≡ list_sum ops (λ (x : A). φ x ⊗ a) xs
    list_sum-mul φ [] a = zero-mul 𝓡 a
    list_sum-mul φ (x ∷ xs) a = add-mul 𝓡 (φ x) (list_sum ops φ xs) a ∙ ap (λ (y : R). φ x ⊗ a ⊕ y) (list_sum-mul φ xs a)

    pub sum-list_sum : (n : ℕ) (f : ℕ → A → R) (xs : List A) → sum ops n (λ (k : ℕ). list_sum ops (f k) xs) ≡ list_sum ops (λ (x : A). sum ops n (λ (k : ℕ). f k x)) xs
    sum-list_sum zero f xs = sym (list_sum-zero (λ (x : A). 𝟘) xs (λ x. refl))
    sum-list_sum (suc n) f xs = ap (λ (y : R). y ⊕ list_sum ops (f n) xs) (sum-list_sum n f xs) ∙ sym (list_sum-add (λ (x : A). sum ops n (λ (k : ℕ). f k x)) (f n) xs)

    -- summed from left to right, as a loop does
    pub foldl_list_sum : (φ : A → R) (xs : List A) → foldl (λ (y : R) (x : A). y ⊕ φ x) 𝟘 xs ≡ list_sum ops φ xs
    foldl_list_sum φ xs = go xs 𝟘 (zero-zero 𝓡) ∙ zero-list_sum φ xs
      where
        go : (xs : List A) (m : R) → 𝟘 ⊕ m ≡ m → foldl (λ (y : R) (x : A). y ⊕ φ x) m xs ≡ m ⊕ list_sum ops φ xs
        go [] m h = sym (add_comm m 𝟘 ∙ h)
        go (x ∷ xs) m h = go xs (m ⊕ φ x) (sym (add_assoc 𝟘 m (φ x)) ∙ ap (λ (y : R). y ⊕ φ x) h) ∙ add_assoc m (φ x) (list_sum ops φ xs)

    pub list_sum_filter : (φ : A → R) (p : A → Bool) (xs : List A) → list_sum ops φ (filter_by p xs) ≡ list_sum ops (λ (x : A). cond (p x) (φ x) 𝟘) xs
    list_sum_filter φ p [] = refl
    list_sum_filter φ p (x ∷ xs) = go (p x) (list_sum_filter φ p xs)
      where
        rest : R
        rest = list_sum ops (λ (x : A). cond (p x) (φ x) 𝟘) xs

        go : (b : Bool) → list_sum ops φ (filter_by p xs) ≡ rest → list_sum ops φ (cond b (x ∷ filter_by p xs) (filter_by p xs)) ≡ cond b (φ x) 𝟘 ⊕ rest
        go true e = ap (λ (y : R). φ x ⊕ y) e
        go false e = e ∙ sym (zero-list_sum (λ (x : A). cond (p x) (φ x) 𝟘) xs)

  pub list_sum-swap : {A B : Type 0} (f : A → B → R) (xs : List A) (ys : List B)
      → list_sum ops (λ (x : A). list_sum ops (f x) ys) xs ≡ list_sum ops (λ (y : B). list_sum ops (λ (x : A). f x y) xs) ys
  list_sum-swap {B} f [] ys = sym (list_sum-zero (λ (y : B). 𝟘) ys (λ y. refl))
  list_sum-swap {A} {B} f (x ∷ xs) ys = ap (λ (z : R). list_sum ops (f x) ys ⊕ z) (list_sum-swap f xs ys) ∙ sym (list_sum-add (f x) (λ (y : B). list_sum ops (λ (x : A). f x y) xs) ys)

  pub list_sum_map : {A B : Type 0} (φ : B → R) (f : A → B) (xs : List A) → list_sum ops φ (map f xs) ≡ list_sum ops (λ (x : A). φ (f x)) xs
  list_sum_map φ f [] = refl
  list_sum_map φ f (x ∷ xs) = ap (λ (y : R). φ (f x) ⊕ y) (list_sum_map φ f xs)

  pub list_sum_concat : {A B : Type 0} (φ : B → R) (f : A → List B) (xs : List A) → list_sum ops φ (concat_map f xs) ≡ list_sum ops (λ (x : A). list_sum ops φ (f x)) xs
  list_sum_concat φ f [] = refl
  list_sum_concat φ f (x ∷ xs) = list_sum_append φ (f x) (concat_map f xs) ∙ ap (λ (y : R). list_sum ops φ (f x) ⊕ y) (list_sum_concat φ f xs)
