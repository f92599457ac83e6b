-- Permutations: traces where nothing shares; what `concatMap`, a filter and a sum make of them.
use mathlib.Core.Path.{◌≡◌, refl, sym, ap, ◌∙◌, subst, fun_ext}
use mathlib.Core.Bool.{Bool, true, false, cond}
use mathlib.Core.List.{List, [], ◌∷◌, ◌++◌, map, foldl, append_assoc}
use Rattle.algebra.specs.Lists.{concat_map, filter_by}
use Rattle.algebra.proofs.Trace.{Trace, nil, keep, swap, join, same}

abbrev pub free : {A : Type 0} → A → A → Bool
free a b = false

abbrev pub Perm : {A : Type 0} → List A → List A → Type 0
Perm {A} xs ys = Trace (free {A = A}) xs ys

module _ {A : Type 0} where
  pub perm_path : {xs ys : List A} → xs ≡ ys → Perm xs ys
  perm_path {xs} e = subst (λ (zs : List A). Perm xs zs) e (same xs)

  pub perm_sym : {xs ys : List A} → Perm xs ys → Perm ys xs
  perm_sym nil = nil
  perm_sym (keep a t) = keep a (perm_sym t)
  perm_sym (swap a b e) = swap b a refl
  perm_sym (join t u) = join (perm_sym u) (perm_sym t)

  pub append_left : (us : List A) {xs ys : List A} → Perm xs ys → Perm (us ++ xs) (us ++ ys)
  append_left [] t = t
  append_left (u ∷ us) t = keep u (append_left us t)

  pub append_right : {xs ys : List A} (us : List A) → Perm xs ys → Perm (xs ++ us) (ys ++ us)
  append_right us nil = same us
  append_right us (keep a t) = keep a (append_right us t)
  append_right us (swap a b e) = swap a b refl
  append_right us (join t u) = join (append_right us t) (append_right us u)

  pub append_both : {xs ys us vs : List A} → Perm xs ys → Perm us vs → Perm (xs ++ us) (ys ++ vs)
  append_both {ys} {us} t u = join (append_right us t) (append_left ys u)

  pub middle : (a : A) (xs ys : List A) → Perm (xs ++ a ∷ ys) (a ∷ (xs ++ ys))
  middle a [] ys = same (a ∷ ys)
  middle a (x ∷ xs) ys = join (keep x (middle a xs ys)) (swap x a refl)

  pub append_swap : (xs ys zs : List A) → Perm (xs ++ (ys ++ zs)) (ys ++ (xs ++ zs))
  append_swap [] ys zs = same (ys ++ zs)
  append_swap (x ∷ xs) ys zs = join (keep x (append_swap xs ys zs)) (perm_sym (middle x ys (xs ++ zs)))

module _ {A B : Type 0} where
  pub map_of : (f : A → B) {xs ys : List A} → Perm xs ys → Perm (map f xs) (map f ys)
  map_of f nil = nil
  map_of f (keep a t) = keep (f a) (map_of f t)
  map_of f (swap a b e) = swap (f a) (f b) refl
  map_of f (join t u) = join (map_of f t) (map_of f u)

  pub concat_append : (f : A → List B) (xs ys : List A) → concat_map f (xs ++ ys) ≡ concat_map f xs ++ concat_map f ys
  concat_append f [] ys = refl
  concat_append f (x ∷ xs) ys = ap (λ (zs : List B). f x ++ zs) (concat_append f xs ys) ∙ sym (append_assoc (f x) (concat_map f xs) (concat_map f ys))

  pub concat_of : (f : A → List B) {xs ys : List A} → Perm xs ys → Perm (concat_map f xs) (concat_map f ys)
  concat_of f nil = nil
  concat_of f (keep a t) = append_left (f a) (concat_of f t)
  concat_of f (swap a b {xs} e) = append_swap (f a) (f b) (concat_map f xs)
  concat_of f (join t u) = join (concat_of f t) (concat_of f u)

  pub concat_pointwise : (f g : A → List B) → ((a : A) → Perm (f a) (g a)) → (xs : List A) → Perm (concat_map f xs) (concat_map g xs)
  concat_pointwise f g h [] = nil
  concat_pointwise f g h (x ∷ xs) = append_both (h x) (concat_pointwise f g h xs)

pub concat_concat : {A B C : Type 0} (f : B → List C) (g : A → List B) (xs : List A) → concat_map f (concat_map g xs) ≡ concat_map (λ (a : A). concat_map f (g a)) xs
concat_concat f g [] = refl
concat_concat {C} f g (x ∷ xs) = concat_append f (g x) (concat_map g xs) ∙ ap (λ (zs : List C). concat_map f (g x) ++ zs) (concat_concat f g xs)

-- two steps that commute at each branch commute on lists
pub steps_commute : {A : Type 0} (f g : A → List A) → ((a : A) → Perm (concat_map f (g a)) (concat_map g (f a))) → (xs : List A)
    → Perm (concat_map f (concat_map g xs)) (concat_map g (concat_map f xs))
steps_commute {A} f g h xs =
    join (perm_path (concat_concat f g xs))
    (join (concat_pointwise (λ (a : A). concat_map f (g a)) (λ (a : A). concat_map g (f a)) h xs) (perm_path (sym (concat_concat g f xs))))

-- a rectangle row by row, and column by column
module _ {A B C : Type 0} (h : A → B → C) where
  one_more : (x : A) (xs : List A) (ys : List B) → Perm (concat_map (λ (y : B). h x y ∷ map (λ (z : A). h z y) xs) ys) (map (h x) ys ++ concat_map (λ (y : B). map (λ (z : A). h z y) xs) ys)
  one_more x xs [] = nil
  one_more x xs (y ∷ ys) = keep (h x y) (join (append_left (map (λ (z : A). h z y) xs) (one_more x xs ys))
      (append_swap (map (λ (z : A). h z y) xs) (map (h x) ys) (concat_map (λ (y : B). map (λ (z : A). h z y) xs) ys)))

  empty : (ys : List B) → concat_map (λ (y : B). map (λ (z : A). h z y) []) ys ≡ []
  empty [] = refl
  empty (y ∷ ys) = empty ys

  pub rectangle : (xs : List A) (ys : List B) → Perm (concat_map (λ (x : A). map (h x) ys) xs) (concat_map (λ (y : B). map (λ (z : A). h z y) xs) ys)
  rectangle [] ys = perm_path (sym (empty ys))
  rectangle (x ∷ xs) ys = join (append_left (map (h x) ys) (rectangle xs ys)) (perm_sym (one_more x xs ys))

-- a commutative sum from left to right, as a loop makes it
module _ {A M : Type 0} (◌⊕◌ : M → M → M) where
  abbrev pub gather : (A → M) → M → List A → M
  gather φ = foldl (λ (z : M) (a : A). ◌⊕◌ z (φ a))

  pub gather-of : ((a b c : M) → ◌⊕◌ (◌⊕◌ a b) c ≡ ◌⊕◌ a (◌⊕◌ b c)) → ((a b : M) → ◌⊕◌ a b ≡ ◌⊕◌ b a)
      → (φ : A → M) {xs ys : List A} → Perm xs ys → (m : M) → gather φ m xs ≡ gather φ m ys
  gather-of assoc comm φ nil m = refl
  gather-of assoc comm φ (keep a t) m = gather-of assoc comm φ t (◌⊕◌ m (φ a))
  gather-of assoc comm φ (swap a b {xs} e) m =
      ap (λ (z : M). gather φ z xs) (assoc m (φ a) (φ b) ∙ ap (λ (z : M). ◌⊕◌ m z) (comm (φ a) (φ b)) ∙ sym (assoc m (φ b) (φ a)))
  gather-of assoc comm φ (join t u) m = gather-of assoc comm φ t m ∙ gather-of assoc comm φ u m

-- what passes a test
module _ {A : Type 0} (p : A → Bool) where
  pub filter_of : {xs ys : List A} → Perm xs ys → Perm (filter_by p xs) (filter_by p ys)
  filter_of nil = nil
  filter_of (keep a {xs} {ys} t) = one (p a) (filter_of t)
    where
      one : (b : Bool) → Perm (filter_by p xs) (filter_by p ys) → Perm (cond b (a ∷ filter_by p xs) (filter_by p xs)) (cond b (a ∷ filter_by p ys) (filter_by p ys))
      one true r = keep a r
      one false r = r
  filter_of (swap a b {xs} e) = two (p a) (p b)
    where
      two : (c k : Bool) → Perm (cond c (a ∷ cond k (b ∷ filter_by p xs) (filter_by p xs)) (cond k (b ∷ filter_by p xs) (filter_by p xs)))
          (cond k (b ∷ cond c (a ∷ filter_by p xs) (filter_by p xs)) (cond c (a ∷ filter_by p xs) (filter_by p xs)))
      two true true = swap a b refl
      two true false = same (a ∷ filter_by p xs)
      two false true = same (b ∷ filter_by p xs)
      two false false = same (filter_by p xs)
  filter_of (join t u) = join (filter_of t) (filter_of u)

-- a gate is a list of operations on a branch, and splits each branch into what they make of it, in their order
module _ {O S : Type 0} where
  abbrev pub split : (O → S → S) → List O → S → List S
  split f os s = map (λ (o : O). f o s) os

  concat_map_lem : {T : Type 0} (k : S → List T) (g : O → S) (os : List O) → concat_map k (map g os) ≡ concat_map (λ (o : O). k (g o)) os
  concat_map_lem k g [] = refl
  concat_map_lem {T} k g (o ∷ os) = ap (λ (zs : List T). k (g o) ++ zs) (concat_map_lem k g os)

  pub splits_commute : (f g : O → S → S) (ps qs : List O) → ((p q : O) (s : S) → f p (g q s) ≡ g q (f p s)) → (s : S)
      → Perm (concat_map (split f ps) (split g qs s)) (concat_map (split g qs) (split f ps s))
  splits_commute f g ps qs h s =
      join (perm_path (concat_map_lem (split f ps) (λ (q : O). g q s) qs))
      (join (perm_sym (rectangle (λ (p q : O). f p (g q s)) ps qs))
      (perm_path (ap (λ (k : O → O → S). concat_map (λ (p : O). map (k p) qs) ps) (fun_ext (λ p. fun_ext (λ q. h p q s)))
      ∙ sym (concat_map_lem (split g qs) (λ (p : O). f p s) ps))))
