-- The first no of a list of questions that is put together of two, and of a list whose answers are all yes.
use mathlib.Core.Path.{◌≡◌, refl, sym, ap, ◌∙◌}
use mathlib.Core.Bool.{Bool, true, false, cond, ◌&&◌, true≢false}
use mathlib.Core.List.{List, [], ◌∷◌, ◌++◌}
use Prim.Native.Nat.{ℕ}
use Rattle.algebra.specs.Lists.{All, every}
use Rattle.std.specs.Prelude.{Result, Ok, Err, is_ok, IsErrAnd}
use Rattle.verdict.specs.declared.Refusal.{Refusal}
use Rattle.verdict.specs.Questions.{Verdict, Question, first_by, granted, first_no, decided_by}

abbrev pub yes : Question → Bool
yes q = q.answer

module _ {A : Type 0} (f : Question → A) (z : A) where
  -- the questions ys after xs: they decide where xs do not
  pub first_append : (xs ys : List Question) → first_by f z (xs ++ ys) ≡ first_by f (first_by f z ys) xs
  first_append [] ys = refl
  first_append (x ∷ xs) ys = ap (λ (a : A). cond x.answer a (f x)) (first_append xs ys)

  pub first-none : (xs : List Question) → every yes xs ≡ true → first_by f z xs ≡ z
  first-none [] e = refl
  first-none (x ∷ xs) e = go x.answer e (first-none xs)
    where
      go : (b : Bool) → (b && every yes xs) ≡ true → (every yes xs ≡ true → first_by f z xs ≡ z) → cond b (first_by f z xs) (f x) ≡ z
      go true e r = r e
      go false e r = absurd (true≢false (sym e))

  pub first_some : (y : A) (xs : List Question) → every yes xs ≡ false → first_by f y xs ≡ first_by f z xs
  first_some y [] e = absurd (true≢false e)
  first_some y (x ∷ xs) e = go x.answer e (first_some y xs)
    where
      go : (b : Bool) → (b && every yes xs) ≡ false → (every yes xs ≡ false → first_by f y xs ≡ first_by f z xs)
          → cond b (first_by f y xs) (f x) ≡ cond b (first_by f z xs) (f x)
      go true e r = r e
      go false e r = refl

-- the first no of xs ++ ys is that of ys where xs have none, else that of xs
module _ {A : Type 0} (f : Question → A) (z : A) (xs ys : List Question) where
  pub append_yes : every yes xs ≡ true → first_by f z (xs ++ ys) ≡ first_by f z ys
  append_yes e = first_append f z xs ys ∙ first-none f (first_by f z ys) xs e

  pub append_no : every yes xs ≡ false → first_by f z (xs ++ ys) ≡ first_by f z xs
  append_no e = first_append f z xs ys ∙ first_some f z (first_by f z ys) xs e

pub every_append : (xs ys : List Question) → every yes (xs ++ ys) ≡ every yes xs && every yes ys
every_append [] ys = refl
every_append (x ∷ xs) ys = ap (λ (b : Bool). x.answer && b) (every_append xs ys) ∙ assoc x.answer (every yes xs) (every yes ys)
  where
    assoc : (a b c : Bool) → (a && (b && c)) ≡ ((a && b) && c)
    assoc true b c = refl
    assoc false b c = refl

-- where every answer before q is yes and that to q is no, the verdict is the refusal of q
pub decided : (xs ys : List Question) (q : Question) → every yes xs ≡ true → q.answer ≡ false → first_no (xs ++ (q ∷ ys)) ≡ Err q.refusal
decided xs ys q e f =
    append_yes (λ (q : Question). Err q.refusal) _ xs (q ∷ ys) e ∙ ap (λ (b : Bool). cond b (first_no ys) (Err q.refusal)) f

-- the number that decides is one of theirs
pub decided_among : (p : ℕ → Bool) (qs : List Question) → All (λ (q : Question). p q.number ≡ true) qs → every yes qs ≡ false → p (decided_by qs) ≡ true
decided_among p [] h e = absurd (true≢false e)
decided_among p (q ∷ qs) h e = go q.answer e (decided_among p qs h.1)
  where
    go : (b : Bool) → (b && every yes qs) ≡ false → (every yes qs ≡ false → p (decided_by qs) ≡ true) → p (cond b (decided_by qs) q.number) ≡ true
    go true e r = r e
    go false e r = h.0

module _ {A : Type 0} (x : A) where
  -- every answer is yes exactly where nothing is refused
  pub all_yes : (qs : List Question) → is_ok (granted x qs) ≡ every yes qs
  all_yes [] = refl
  all_yes (q ∷ qs) = go q.answer (all_yes qs)
    where
      go : (b : Bool) → is_ok (granted x qs) ≡ every yes qs → is_ok (cond b (granted x qs) (Err q.refusal)) ≡ (b && every yes qs)
      go true r = r
      go false r = refl

-- ---- v is the verdict on xs: it stands where it refuses, and that on ys follows where it accepts
module _ (xs ys : List Question) {v : Verdict} (e : v ≡ first_no xs) where
  answers : is_ok v ≡ every yes xs
  answers = ap is_ok e ∙ all_yes tt xs

  pub after-yes : {w : Verdict} → is_ok v ≡ true → w ≡ first_no ys → w ≡ first_no (xs ++ ys)
  after-yes a k = k ∙ sym (append_yes _ _ xs ys (sym answers ∙ a))

  pub after_no : is_ok v ≡ false → v ≡ first_no (xs ++ ys)
  after_no a = e ∙ sym (append_no _ _ xs ys (sym answers ∙ a))

-- the refusal that a `?` returns is the one that it was given
pub returned : {B : Type 0} (v : Result B Refusal) {r : Refusal} → IsErrAnd v (λ (s : Refusal). s ≡ r) → v ≡ Err r
returned (Ok x) h = absurd h
returned (Err s) h = ap Err h

-- ---- an answer behind a `?`: a refusal stands for all that is asked, and an acceptance leaves it to the rest
module _ {A B : Type 0} (x : A) (y : B) where
  pub refused_alike : (xs : List Question) {r : Refusal} → Err r ≡ granted x xs → Err r ≡ granted y xs
  refused_alike [] e = absurd (cc)
  refused_alike (q ∷ qs) {r} e = go q.answer e (refused_alike qs)
    where
      go : (b : Bool) → Err r ≡ cond b (granted x qs) (Err q.refusal) → (Err r ≡ granted x qs → Err r ≡ granted y qs) → Err r ≡ cond b (granted y qs) (Err q.refusal)
      go true e h = h e
      go false e h = cc

  pub handed : (xs : List Question) {z : A} → Ok z ≡ granted x xs → Ok y ≡ granted y xs
  handed [] e = refl
  handed (q ∷ qs) {z} e = go q.answer e (handed qs)
    where
      go : (b : Bool) → Ok z ≡ cond b (granted x qs) (Err q.refusal) → (Ok z ≡ granted x qs → Ok y ≡ granted y qs) → Ok y ≡ cond b (granted y qs) (Err q.refusal)
      go true e h = h e
      go false e h = absurd (cc)

  -- of the questions xs before ys
  pub refused : (xs ys : List Question) {r : Refusal} → Err r ≡ granted x xs → Err r ≡ granted y (xs ++ ys)
  refused xs ys {r} e = sym (append_no _ _ xs ys (sym (all_yes x xs) ∙ sym (ap is_ok e)) ∙ sym (refused_alike xs e))

  pub passed : (xs ys : List Question) {z : A} → Ok z ≡ granted x xs → granted y ys ≡ granted y (xs ++ ys)
  passed xs ys {z} e = sym (append_yes _ _ xs ys (sym (all_yes x xs) ∙ sym (ap is_ok e)))

-- what is handed over is what all the answers grant
pub handed_value : {A : Type 0} (x : A) (xs : List Question) {z : A} → Ok z ≡ granted x xs → z ≡ x
handed_value x [] e = cc
handed_value x (q ∷ qs) {z} e = go q.answer e (handed_value x qs)
  where
    go : (b : Bool) → Ok z ≡ cond b (granted x qs) (Err q.refusal) → (Ok z ≡ granted x qs → z ≡ x) → z ≡ x
    go true e h = h e
    go false e h = absurd (cc)
