-- Every schedule is a trace: the pairs (old place, element), sorted by insertion, pass only what they do not share with.
use mathlib.Core.Path.{◌≡◌, refl, sym, ap, ap₂, ◌∙◌, subst}
use mathlib.Core.Logic.{◌≢◌}
use mathlib.Core.Bool.{Bool, true, false}
use mathlib.Core.List.{List, [], ◌∷◌}
use Prim.Native.Nat.{ℕ, suc, ◌+◌, ◌≤◌, ◌<◌}
use native.Mathlib.Decide.{dec_lt}
use native.Mathlib.Omega.{arith}
use lib.ListN.{length, get_or}
use Rattle.algebra.specs.Lists.{All}
use Rattle.algebra.specs.Schedule.{Schedule}
use Rattle.algebra.proofs.Lists.{all_imp}
use Rattle.algebra.proofs.Trace.{Trace, nil, keep, swap, join, same}

module _ {A : Type 0} (share : A → A → Bool) (d : A) where
  -- elements with their keys
  abbrev P : Type 0
  P = record { key : ℕ; val : A }

  abbrev vals : List P → List A
  vals [] = []
  vals (p ∷ ps) = p.val ∷ vals ps

  -- p may stand before q
  record Before (p q : P) : Type 0 where
    apart : p.key ≢ q.key
    order : share p.val q.val ≡ true → p.key < q.key

  abbrev Chain : List P → Type 0
  Chain [] = Unit {0}
  Chain (p ∷ ps) = All (Before p) ps × Chain ps

  -- keys strictly rising, from a on
  abbrev From : ℕ → List P → Type 0
  From a [] = Unit {0}
  From a (p ∷ ps) = (a ≤ p.key) × From (suc p.key) ps

  put : (p q : P) → Dec (p.key < q.key) → List P → List P → List P
  put p q (yes h) ps rs = p ∷ q ∷ ps
  put p q (no h) ps rs = q ∷ rs

  insert : P → List P → List P
  insert p [] = p ∷ []
  insert p (q ∷ ps) = put p q (dec_lt p.key q.key) ps (insert p ps)

  sort : List P → List P
  sort [] = []
  sort (p ∷ ps) = insert p (sort ps)

  insert_all : (Q : P → Type 0) (p : P) (ps : List P) → Q p → All Q ps → All Q (insert p ps)
  unfolding insert put
  insert_all Q p [] h k = (h, tt)
  insert_all Q p (q ∷ ps) h k = go (dec_lt p.key q.key) (insert_all Q p ps h k.1)
    where
      go : (e : Dec (p.key < q.key)) → All Q (insert p ps) → All Q (put p q e ps (insert p ps))
      go (yes l) r = (h, k)
      go (no l) r = (k.0, r)

  insert-length : (p : P) (ps : List P) → length (insert p ps) ≡ suc (length ps)
  unfolding insert put
  insert-length p [] = refl
  insert-length p (q ∷ ps) = go (dec_lt p.key q.key) (insert-length p ps)
    where
      go : (e : Dec (p.key < q.key)) → length (insert p ps) ≡ suc (length ps) → length (put p q e ps (insert p ps)) ≡ suc (suc (length ps))
      go (yes l) r = refl
      go (no l) r = ap suc r

  -- an inserted pair passes only what it does not share with
  free : (b : Bool) → (b ≡ true → ⊥) → b ≡ false
  free true h = absurd (h refl)
  free false h = refl

  insert_trace : (p : P) (ps : List P) → All (Before p) ps → Trace share (p.val ∷ vals ps) (vals (insert p ps))
  unfolding insert put
  insert_trace p [] h = same (p.val ∷ [])
  insert_trace p (q ∷ ps) h = go (dec_lt p.key q.key) (insert_trace p ps h.1)
    where
      go : (e : Dec (p.key < q.key)) → Trace share (p.val ∷ vals ps) (vals (insert p ps))
          → Trace share (p.val ∷ q.val ∷ vals ps) (vals (put p q e ps (insert p ps)))
      go (yes l) r = same (p.val ∷ q.val ∷ vals ps)
      go (no l) r = join (swap p.val q.val (free (share p.val q.val) (λ s. l (h.0.order s)))) (keep q.val r)

  insert-from : (a : ℕ) (p : P) (ps : List P) → a ≤ p.key → From a ps → All (Before p) ps → From a (insert p ps)
  unfolding insert put
  insert-from a p [] h f b = (h, tt)
  insert-from a p (q ∷ ps) h f b = go (dec_lt p.key q.key) (λ (l : q.key < p.key). insert-from (suc q.key) p ps l f.1 b.1)
    where
      go : (e : Dec (p.key < q.key)) → (q.key < p.key → From (suc q.key) (insert p ps)) → From a (put p q e ps (insert p ps))
      go (yes l) r = (h, (l, f.1))
      go (no l) r = (f.0, r (omega (arith, b.0.apart)))

  sort_all : (Q : P → Type 0) (ps : List P) → All Q ps → All Q (sort ps)
  unfolding sort
  sort_all Q [] h = tt
  sort_all Q (p ∷ ps) h = insert_all Q p (sort ps) h.0 (sort_all Q ps h.1)

  sort_length : (ps : List P) → length (sort ps) ≡ length ps
  unfolding sort
  sort_length [] = refl
  sort_length (p ∷ ps) = insert-length p (sort ps) ∙ ap suc (sort_length ps)

  sort_trace : (ps : List P) → Chain ps → Trace share (vals ps) (vals (sort ps))
  unfolding sort
  sort_trace [] c = nil
  sort_trace (p ∷ ps) c = join (keep p.val (sort_trace ps c.1)) (insert_trace p (sort ps) (sort_all (Before p) ps c.0))

  sort_from : (ps : List P) → Chain ps → From 0 (sort ps)
  unfolding sort
  sort_from [] c = tt
  sort_from (p ∷ ps) c = insert-from 0 p (sort ps) (omega arith) (sort_from ps c.1) (sort_all (Before p) ps c.0)

  -- as many rising keys as there are places are the places
  room : (a c : ℕ) (ps : List P) → a ≤ c → From a ps → All (λ (p : P). p.key < c) ps → a + length ps ≤ c
  room a c [] h f b = omega arith
  room a c (p ∷ ps) h f b = omega (arith, room (suc p.key) c ps b.0 f.1 b.1)

  exact : (a : ℕ) (xs : List A) (ps : List P) → From a ps → length ps ≡ length xs → All (λ (p : P). p.key < a + length xs) ps
      → All (λ (p : P). (i : ℕ) → p.key ≡ a + i → p.val ≡ get_or xs i d) ps → vals ps ≡ xs
  exact a [] [] f l b v = refl
  exact a [] (p ∷ ps) f l b v = absurd (omega arith)
  exact a (x ∷ xs) [] f l b v = absurd (omega arith)
  exact a (x ∷ xs) (p ∷ ps) f l b v =
      let first : p.key ≡ a = omega (arith, room (suc p.key) (a + suc (length xs)) ps b.0 f.1 b.1) in
      ap₂ ◌∷◌ (v.0 0 (omega arith)) (exact (suc a) xs ps (subst (λ (k : ℕ). From (suc k) ps) first f.1) (omega arith) (all_imp _ _ ps (λ q h. omega arith) b.1)
      (all_imp _ _ ps (λ q h i e. h (suc i) (omega arith)) v.1))

  -- the table and the new list, place by place
  abbrev pair : ℕ → A → P
  pair k y = record { key = k; val = y }

  pairs : List ℕ → List A → List P
  pairs [] ys = []
  pairs (k ∷ ks) [] = []
  pairs (k ∷ ks) (y ∷ ys) = pair k y ∷ pairs ks ys

  pairs-length : (ks : List ℕ) (ys : List A) → length ks ≡ length ys → length (pairs ks ys) ≡ length ys
  unfolding pairs
  pairs-length [] ys l = l
  pairs-length (k ∷ ks) [] l = refl
  pairs-length (k ∷ ks) (y ∷ ys) l = ap suc (pairs-length ks ys (omega arith))

  pairs-vals : (ks : List ℕ) (ys : List A) → length ks ≡ length ys → vals (pairs ks ys) ≡ ys
  unfolding pairs
  pairs-vals [] [] l = refl
  pairs-vals [] (y ∷ ys) l = absurd (omega arith)
  pairs-vals (k ∷ ks) [] l = refl
  pairs-vals (k ∷ ks) (y ∷ ys) l = ap (λ (zs : List A). y ∷ zs) (pairs-vals ks ys (omega arith))

  pairs-all : (Q : P → Type 0) (ks : List ℕ) (ys : List A) → ((i : ℕ) → i < length ks → Q (pair (get_or ks i 0) (get_or ys i d))) → All Q (pairs ks ys)
  unfolding pairs
  pairs-all Q [] ys h = tt
  pairs-all Q (k ∷ ks) [] h = tt
  pairs-all Q (k ∷ ks) (y ∷ ys) h = (h 0 (omega arith), pairs-all Q ks ys (λ i l. h (suc i) (omega arith)))

  pairs-chain : (ks : List ℕ) (ys : List A)
      → ((i j : ℕ) → i < j → j < length ks → Before (pair (get_or ks i 0) (get_or ys i d)) (pair (get_or ks j 0) (get_or ys j d))) → Chain (pairs ks ys)
  unfolding pairs
  pairs-chain [] ys h = tt
  pairs-chain (k ∷ ks) [] h = tt
  pairs-chain (k ∷ ks) (y ∷ ys) h = (
    pairs-all (Before (pair k y)) ks ys (λ i l. h 0 (suc i) (omega arith) (omega arith)),
    pairs-chain ks ys (λ i j l m. h (suc i) (suc j) (omega arith) (omega arith)),
  )

  -- every whole schedule is a trace
  module _ {xs ys : List A} {table : List ℕ} (sch : Schedule share d xs ys table) where
    ps : List P
    ps = pairs table ys

    chain : Chain ps
    unfolding ps
    chain = pairs-chain table ys (λ i j l m. record { apart = sch.once i j l m; order = sch.kept i j l m })

    sorted : vals (sort ps) ≡ xs
    unfolding ps
    sorted =
        exact 0 xs (sort ps) (sort_from ps chain) (sort_length ps ∙ pairs-length table ys (sch.wide ∙ sym sch.long) ∙ sch.long)
        (sort_all _ ps (pairs-all _ table ys (λ i l. omega (arith, sch.below i l))))
        (sort_all _ ps (pairs-all _ table ys (λ i l j e. sch.moved i l ∙ ap (λ (k : ℕ). get_or xs k d) (omega arith))))

    pub schedule_trace : Trace share ys xs
    unfolding ps
    schedule_trace =
        subst (λ (zs : List A). Trace share zs xs) (pairs-vals table ys (sch.wide ∙ sym sch.long))
        (subst (λ (zs : List A). Trace share (vals ps) zs) sorted (sort_trace ps chain))
