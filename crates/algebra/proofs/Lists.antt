-- What holds of all elements of a list, of its maps and of what passes a test; and how many there are.
use mathlib.Core.Path.{◌≡◌, refl, sym, ap, ap₂, ◌∙◌}
use mathlib.Core.Bool.{Bool, true, false, cond, ◌||◌}
use mathlib.Core.List.{List, [], ◌∷◌, ◌++◌, map}
use Prim.Native.Nat.{ℕ, zero, suc, ◌+◌, ◌*◌, ◌≤◌, ◌<◌}
use native.Mathlib.Nat.{not-suc-le-zero, suc-mul}
use native.Mathlib.Omega.{arith}
use lib.ListN.{length, get_or, length-append, get_or-append}
use lib.Seq.{get_or-append-add}
use Rattle.algebra.specs.Lists.{All, every, some, filter_by, concat_map}
use Rattle.algebra.proofs.Tests.{and_split}

module _ {A : Type 0} where
  pub all_imp : (P Q : A → Type 0) (xs : List A) → ((x : A) → P x → Q x) → All P xs → All Q xs
  all_imp P Q [] f h = tt
  all_imp P Q (x ∷ xs) f h = (f x h.0, all_imp P Q xs f h.1)

  pub all_both : (P Q R : A → Type 0) (xs : List A) → ((x : A) → P x → Q x → R x) → All P xs → All Q xs → All R xs
  all_both P Q R [] f h k = tt
  all_both P Q R (x ∷ xs) f h k = (f x h.0 k.0, all_both P Q R xs f h.1 k.1)

  pub all_get_d : (P : A → Type 0) (xs : List A) → All P xs → (i : ℕ) → i < length xs → (z : A) → P (get_or xs i z)
  all_get_d P [] h i l z = absurd (omega arith)
  all_get_d P (x ∷ xs) h zero l z = h.0
  all_get_d P (x ∷ xs) h (suc i) l z = all_get_d P xs h.1 i (omega arith) z

  -- for each c below d, or at once
  pub all-turn : (d : ℕ) (P : ℕ → A → Type 0) (xs : List A) → ((c : ℕ) → c < d → All (P c) xs) → All (λ (x : A). (c : ℕ) → c < d → P c x) xs
  all-turn d P [] h = tt
  all-turn d P (x ∷ xs) h = ((λ c l. (h c l).0), all-turn d P xs (λ c l. (h c l).1))

  pub all_append : (P : A → Type 0) (xs ys : List A) → All P xs → All P ys → All P (xs ++ ys)
  all_append P [] ys h k = k
  all_append P (x ∷ xs) ys h k = (h.0, all_append P xs ys h.1 k)

  -- a test passed by every element, read
  pub every-all : (p : A → Bool) (P : A → Type 0) → ((a : A) → p a ≡ true → P a) → (xs : List A) → every p xs ≡ true → All P xs
  every-all p P f [] e = tt
  every-all p P f (x ∷ xs) e = let (h, k) = and_split (p x) (every p xs) e in (f x h, every-all p P f xs k)

  pub some_append : (p : A → Bool) (xs ys : List A) → some p (xs ++ ys) ≡ some p xs || some p ys
  some_append p [] ys = refl
  some_append p (x ∷ xs) ys = ap (λ (b : Bool). p x || b) (some_append p xs ys) ∙ or_assoc (p x) (some p xs) (some p ys)
    where
      or_assoc : (a b c : Bool) → a || (b || c) ≡ a || b || c
      or_assoc true b c = refl
      or_assoc false b c = refl

  -- ---- what passes a test
  pub filter_all : (P : A → Type 0) (p : A → Bool) (xs : List A) → All P xs → All P (filter_by p xs)
  filter_all P p [] h = tt
  filter_all P p (x ∷ xs) h = go (p x) (filter_all P p xs h.1)
    where
      go : (b : Bool) → All P (filter_by p xs) → All P (cond b (x ∷ filter_by p xs) (filter_by p xs))
      go true r = (h.0, r)
      go false r = r

  pub filter_true : (p : A → Bool) (xs : List A) → All (λ (x : A). p x ≡ true) (filter_by p xs)
  filter_true p [] = tt
  filter_true p (x ∷ xs) = go (p x) refl (filter_true p xs)
    where
      go : (b : Bool) → p x ≡ b → All (λ (y : A). p y ≡ true) (filter_by p xs) → All (λ (y : A). p y ≡ true) (cond b (x ∷ filter_by p xs) (filter_by p xs))
      go true e r = (e, r)
      go false e r = r

  pub filter_length : (p : A → Bool) (xs : List A) → length (filter_by p xs) ≤ length xs
  filter_length p [] = omega arith
  filter_length p (x ∷ xs) = go (p x) (filter_length p xs)
    where
      go : (b : Bool) → length (filter_by p xs) ≤ length xs → length (cond b (x ∷ filter_by p xs) (filter_by p xs)) ≤ suc (length xs)
      go true r = omega arith
      go false r = omega arith

  -- all pass, or none does
  pub filter_keep : (p : A → Bool) (xs : List A) → All (λ (x : A). p x ≡ true) xs → filter_by p xs ≡ xs
  filter_keep p [] h = refl
  filter_keep p (x ∷ xs) h = ap (λ (b : Bool). cond b (x ∷ filter_by p xs) (filter_by p xs)) h.0 ∙ ap (λ (ys : List A). x ∷ ys) (filter_keep p xs h.1)

  -- two tests, in either order
  pub filter_swap : (p q : A → Bool) (xs : List A) → filter_by p (filter_by q xs) ≡ filter_by q (filter_by p xs)
  filter_swap p q [] = refl
  filter_swap p q (x ∷ xs) = go (p x) refl (q x) refl (filter_swap p q xs)
    where
      go : (b : Bool) → p x ≡ b → (c : Bool) → q x ≡ c → filter_by p (filter_by q xs) ≡ filter_by q (filter_by p xs)
          → filter_by p (cond c (x ∷ filter_by q xs) (filter_by q xs)) ≡ filter_by q (cond b (x ∷ filter_by p xs) (filter_by p xs))
      go true e true f r = ap (λ (b : Bool). cond b (x ∷ filter_by p (filter_by q xs)) (filter_by p (filter_by q xs))) e ∙ ap (λ (ys : List A). x ∷ ys) r
          ∙ sym (ap (λ (b : Bool). cond b (x ∷ filter_by q (filter_by p xs)) (filter_by q (filter_by p xs))) f)
      go true e false f r = r ∙ sym (ap (λ (b : Bool). cond b (x ∷ filter_by q (filter_by p xs)) (filter_by q (filter_by p xs))) f)
      go false e true f r = ap (λ (b : Bool). cond b (x ∷ filter_by p (filter_by q xs)) (filter_by p (filter_by q xs))) e ∙ r
      go false e false f r = r

-- ---- maps
module _ {A B : Type 0} where
  pub map_same : (f g : A → B) (xs : List A) → All (λ (x : A). f x ≡ g x) xs → map f xs ≡ map g xs
  map_same f g [] h = refl
  map_same f g (x ∷ xs) h = ap₂ ◌∷◌ h.0 (map_same f g xs h.1)

  pub all_map : (P : A → Type 0) (Q : B → Type 0) (f : A → B) → ((a : A) → P a → Q (f a)) → (xs : List A) → All P xs → All Q (map f xs)
  all_map P Q f g [] h = tt
  all_map P Q f g (x ∷ xs) h = (g x h.0, all_map P Q f g xs h.1)

  pub all_unmap : (Q : B → Type 0) (f : A → B) (xs : List A) → All Q (map f xs) → All (λ (a : A). Q (f a)) xs
  all_unmap Q f [] h = tt
  all_unmap Q f (x ∷ xs) h = (h.0, all_unmap Q f xs h.1)

  pub all_concat : (P : A → Type 0) (Q : B → Type 0) (f : A → List B) → ((a : A) → P a → All Q (f a)) → (xs : List A) → All P xs → All Q (concat_map f xs)
  all_concat P Q f g [] h = tt
  all_concat P Q f g (x ∷ xs) h = all_append Q (f x) (concat_map f xs) (g x h.0) (all_concat P Q f g xs h.1)

  pub concat_length : (f : A → List B) (k : ℕ) → ((a : A) → length (f a) ≡ k) → (xs : List A) → length (concat_map f xs) ≡ length xs * k
  concat_length f k h [] = omega arith
  concat_length f k h (x ∷ xs) = length-append (f x) (concat_map f xs) ∙ omega (arith, h x, concat_length f k h xs)

  -- element k of the list of element j
  pub concat_at : (f : A → List B) (s : ℕ) → ((a : A) → length (f a) ≡ s) → (xs : List A) (z : A) (y : B) (j k : ℕ) → j < length xs → k < s
      → get_or (concat_map f xs) (j * s + k) y ≡ get_or (f (get_or xs j z)) k y
  concat_at f s e [] z y j k h l = absurd (not-suc-le-zero h)
  concat_at f s e (x ∷ xs) z y zero k h l =
      ap (λ (w : ℕ). get_or (f x ++ concat_map f xs) w y) place ∙ get_or-append (f x) (concat_map f xs) y k (omega (arith, e x))
    where
      place : 0 * s + k ≡ k
      place = omega arith
  concat_at f s e (x ∷ xs) z y (suc j) k h l =
      ap (λ (w : ℕ). get_or (f x ++ concat_map f xs) w y) place ∙ get_or-append-add (f x) (concat_map f xs) (j * s + k) y ∙ concat_at f s e xs z y j k (omega arith) l
    where
      place : suc j * s + k ≡ length (f x) + (j * s + k)
      place = omega (arith, suc-mul j s, e x)
