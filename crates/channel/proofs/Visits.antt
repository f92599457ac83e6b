-- The chain of a well-formed channel visits each record once: n different places below n are all of them.
use mathlib.Core.Path.{◌≡◌, refl, sym, ap, ◌∙◌, subst}
use mathlib.Core.Bool.{Bool, true, false, cond, ◌||◌, true≢false}
use mathlib.Core.List.{List, [], ◌∷◌, map}
use Prim.Native.Nat.{ℕ, zero, suc, ◌+◌, ◌*◌, ◌-◌, ◌/◌, ◌<◌, ◌≤◌}
use native.Mathlib.Nat.{not-suc-le-zero, suc-add}
use native.Mathlib.Decide.{dec_lt}
use native.Mathlib.Omega.{arith}
use lib.Arith.{digits_div}
use lib.Dec.{eqb}
use lib.ListN.{length}
use lib.IntN.{ℤ, nat_abs}
use borrow.Author.Tests.{eq-eqb, ne_eqb, eqb-true}
use Rattle.algebra.specs.Lists.{All, some, marks}
use Rattle.store.specs.Store.{before}
use Rattle.channel.specs.Layout.{Form, header_size, record_head, block_size, record_size, record_at, word, store_at, entry_at, count_at, chain, read_back_in}
use Rattle.channel.specs.WellFormed.{well_formed_in}
use Rattle.channel.specs.Inner.Shapes.{OnwardIn}
use Rattle.channel.specs.Claims.{look, places, visits, VisitsOnce}
use Rattle.store.proofs.Order.{before_irrefl, before_apart}
use Rattle.channel.proofs.Words.{Starts}
use Rattle.channel.proofs.Chain.{begin_in, on-start, on-next}
use Rattle.channel.proofs.Sorted.{Above, Sorted, keys, sorted_in}

pub length-places : (F : Form) (l : List ℤ) (n at : ℕ) → length (places F l n at) ≡ n
length-places F l zero at = refl
length-places F l (suc n) at = ap suc (length-places F l n (nat_abs (word l at)))

-- ---- n different numbers below n
abbrev has : List ℕ → ℕ → Bool
has ps j = some (λ (p : ℕ). eqb p j) ps

abbrev hits : ℕ → List ℕ → ℕ
hits n ps = marks n eqb ps

-- a number that is not below n hits nothing
beyond : (n p : ℕ) (ps : List ℕ) → n ≤ p → hits n (p ∷ ps) ≡ hits n ps
beyond zero p ps h = refl
beyond (suc n) p ps h = λ i. beyond n p ps (omega arith) i + cond (ne_eqb p n (λ e. omega arith) i || has ps n) 1 0

fresh : (n p : ℕ) (ps : List ℕ) → p < n → has ps p ≡ false → hits n (p ∷ ps) ≡ suc (hits n ps)
fresh zero p ps h e = absurd (not-suc-le-zero h)
fresh (suc n) p ps h e = go (dec_lt p n) (λ q. fresh n p ps q e)
  where
    go : Dec (p < n) → (p < n → hits n (p ∷ ps) ≡ suc (hits n ps)) → hits (suc n) (p ∷ ps) ≡ suc (hits (suc n) ps)
    go (yes q) ih = (λ i. ih q i + cond (ne_eqb p n (λ z. omega arith) i || has ps n) 1 0) ∙ suc-add (hits n ps) (cond (has ps n) 1 0)
    go (no q) ih =
        let z : p ≡ n = omega arith in
        (λ i. beyond n p ps (omega arith) i + cond (eq-eqb p n z i || has ps n) 1 0) ∙ count (hits n ps) (has ps n) (ap (has ps) (sym z) ∙ e)
      where
        count : (m : ℕ) (b : Bool) → b ≡ false → m + 1 ≡ suc (m + cond b 1 0)
        count m true f = absurd (true≢false f)
        count m false f = omega arith

hits_le : (n : ℕ) (ps : List ℕ) → hits n ps ≤ n
hits_le zero ps = omega arith
hits_le (suc n) ps = by (has ps n) (hits_le n ps)
  where
    by : (b : Bool) → hits n ps ≤ n → hits n ps + cond b 1 0 ≤ suc n
    by true h = omega arith
    by false h = omega arith

missed : (n j : ℕ) (ps : List ℕ) → j < n → has ps j ≡ false → hits n ps < n
missed zero j ps h e = absurd (not-suc-le-zero h)
missed (suc n) j ps h e = go (dec_lt j n) (λ q. missed n j ps q e)
  where
    go : Dec (j < n) → (j < n → hits n ps < n) → hits (suc n) ps < suc n
    go (yes q) ih = by (has ps n) (ih q)
      where
        by : (b : Bool) → hits n ps < n → hits n ps + cond b 1 0 < suc n
        by true h = omega arith
        by false h = omega arith
    go (no q) ih =
        let z : n ≡ j = omega arith in
        let f : has ps n ≡ false = ap (has ps) z ∙ e in
        let g : hits n ps + cond (has ps n) 1 0 ≡ hits n ps + 0 = ap (λ (b : Bool). hits n ps + cond b 1 0) f in
        let l = hits_le n ps in
        omega arith

-- different, since their stores rise
module _ (f : ℕ → ℕ) where
  absent : (p : ℕ) (ps : List ℕ) → Above (f p) (map f ps) → has ps p ≡ false
  absent p [] a = refl
  absent p (q ∷ ps) a = λ i. ne_eqb q p (λ e. true≢false (sym a.0 ∙ ap (λ (k : ℕ). before (f p) (f k)) e ∙ before_irrefl (f p))) i || absent p ps a.1 i

  all_hit : (n : ℕ) (ps : List ℕ) → Sorted (map f ps) → All (λ (p : ℕ). p < n) ps → hits n ps ≡ length ps
  all_hit n [] s a = none n
    where
      none : (n : ℕ) → hits n [] ≡ 0
      none zero = refl
      none (suc n) = ap (λ (k : ℕ). k + 0) (none n)
  all_hit n (p ∷ ps) s a = fresh n p ps a.0 (absent p ps s.1.0) ∙ ap suc (all_hit n ps s.1.1 a.1)

  covers : (n : ℕ) (ps : List ℕ) → Sorted (map f ps) → All (λ (p : ℕ). p < n) ps → length ps ≡ n → (j : ℕ) → j < n → has ps j ≡ true
  covers n ps s a e j h = go (has ps j) refl
    where
      go : (b : Bool) → has ps j ≡ b → has ps j ≡ true
      go true q = q
      go false q = absurd (by (missed n j ps h q) (all_hit n ps s a ∙ e))
        where
          by : hits n ps < n → hits n ps ≡ n → ⊥
          by l m = omega arith

  once : (j : ℕ) (ps : List ℕ) → Sorted (map f ps) → has ps j ≡ true → visits j ps ≡ 1
  once j [] s e = absurd (true≢false (sym e))
  once j (p ∷ ps) s e = go (eqb p j) refl e (once j ps s.1.1)
    where
      zeros : (ps : List ℕ) → has ps j ≡ false → visits j ps ≡ 0
      zeros [] e = refl
      zeros (q ∷ ps) e = step (eqb q j) e (zeros ps)
        where
          step : (b : Bool) → (b || has ps j) ≡ false → (has ps j ≡ false → visits j ps ≡ 0) → cond b 1 0 + visits j ps ≡ 0
          step true q r = absurd (true≢false q)
          step false q r = let z = r q in omega arith

      go : (b : Bool) → eqb p j ≡ b → (b || has ps j) ≡ true → (has ps j ≡ true → visits j ps ≡ 1) → cond (eqb p j) 1 0 + visits j ps ≡ 1
      go true q r ih =
          let z = zeros ps (subst (λ (k : ℕ). has ps k ≡ false) (eqb-true p j q) (absent p ps s.1.0)) in
          let y : cond (eqb p j) 1 0 + visits j ps ≡ 1 + visits j ps = ap (λ (b : Bool). cond b 1 0 + visits j ps) q in
          omega arith
      go false q r ih =
          let z = ih r in
          let y : cond (eqb p j) 1 0 + visits j ps ≡ 0 + visits j ps = ap (λ (b : Bool). cond b 1 0 + visits j ps) q in
          omega arith

above_has : (f : ℕ → ℕ) (s : ℕ) (ps : List ℕ) → Above s (map f ps) → (j : ℕ) → has ps j ≡ true → before s (f j) ≡ true
above_has f s [] a j e = absurd (true≢false (sym e))
above_has f s (p ∷ ps) a j e = go (eqb p j) refl e (above_has f s ps a.1 j)
  where
    go : (b : Bool) → eqb p j ≡ b → (b || has ps j) ≡ true → (has ps j ≡ true → before s (f j) ≡ true) → before s (f j) ≡ true
    go true q r ih = ap (λ (k : ℕ). before s (f k)) (sym (eqb-true p j q)) ∙ a.0
    go false q r ih = ih r

pick : (Q : ℕ → Type 0) (j : ℕ) (ps : List ℕ) → All Q ps → has ps j ≡ true → Q j
pick Q j [] a e = absurd (true≢false (sym e))
pick Q j (p ∷ ps) a e = go (eqb p j) refl e (pick Q j ps a.1)
  where
    go : (b : Bool) → eqb p j ≡ b → (b || has ps j) ≡ true → (has ps j ≡ true → Q j) → Q j
    go true q r ih = subst Q (eqb-true p j q) a.0
    go false q r ih = ih r

-- ---- the places along the chain
place_is : {F : Form} {n a : ℕ} (s : Starts F n a) → (a - header_size) / record_size F ≡ s.place
place_is {F} {n} {a} s = by (block_size F) s.place s.is
  where
    by : (r p : ℕ) → a ≡ header_size + p * (record_head + r) → (a - header_size) / (record_head + r) ≡ p
    by r p e =
        let z : a - header_size ≡ p * (record_head + r) + 0 = omega arith in
        ap (λ (k : ℕ). k / (record_head + r)) z ∙ digits_div p (omega arith)

module _ (F : Form) (l : List ℤ) where
  abbrev key_at : ℕ → ℕ
  key_at p = store_at l (record_at F p)

  -- each place that is passed has what is known of every record on the way
  passed : (Q : ℕ → Type 0) → ((n at : ℕ) → OnwardIn F l n at → 0 < n → Q at) → (n at : ℕ) → OnwardIn F l n at
      → All (λ (p : ℕ). (p < count_at l) × Q (record_at F p)) (places F l n at) × (keys (chain F l n at) ≡ map key_at (places F l n at))
  passed Q q zero at o = (tt, refl)
  passed Q q (suc n) at o =
      go (on-start o (omega arith)) (passed Q q n (nat_abs (word l at)) (subst (λ (k : ℕ). OnwardIn F l k (nat_abs (word l at))) less (on-next o (omega arith))))
    where
      less : suc n - 1 ≡ n
      less = omega arith

      go : Starts F (count_at l) at → All (λ (p : ℕ). (p < count_at l) × Q (record_at F p)) (places F l n (nat_abs (word l at))) × (keys (chain F l n (nat_abs (word l at))) ≡ map key_at (places F l n (nat_abs (word l at))))
          → All (λ (p : ℕ). (p < count_at l) × Q (record_at F p)) (places F l (suc n) at) × (keys (chain F l (suc n) at) ≡ map key_at (places F l (suc n) at))
      go s ih =
          let e = place_is s in
          let at_is : record_at F ((at - header_size) / record_size F) ≡ at = ap (record_at F) e ∙ sym s.is in (
            ((subst (λ (p : ℕ). p < count_at l) (sym e) s.below, subst Q (sym at_is) (q (suc n) at o (omega arith))), ih.0),
            (λ i. store_at l (sym at_is i) ∷ ih.1 i),
          )

  -- a place that is passed has its store's block
  found : (n at : ℕ) → OnwardIn F l n at → Sorted (keys (chain F l n at)) → (j : ℕ) → has (places F l n at) j ≡ true → (k : ℕ) → look (chain F l n at) (key_at j) k ≡ entry_at F l (record_at F j) k
  found zero at o s j e k = absurd (true≢false (sym e))
  found (suc n) at o s j e k =
      let next = subst (λ (m : ℕ). OnwardIn F l m (nat_abs (word l at))) less (on-next o (omega arith)) in
      go (eqb ((at - header_size) / record_size F) j) refl e (passed (λ (a : ℕ). Unit {0}) (λ n a o h. tt) n (nat_abs (word l at)) next).1 (λ r. found n (nat_abs (word l at)) next s.1.1 j r k)
    where
      less : suc n - 1 ≡ n
      less = omega arith

      at_is : record_at F ((at - header_size) / record_size F) ≡ at
      at_is = let t = on-start o (omega arith) in ap (record_at F) (place_is t) ∙ sym t.is

      go : (b : Bool) → eqb ((at - header_size) / record_size F) j ≡ b → (b || has (places F l n (nat_abs (word l at))) j) ≡ true
          → keys (chain F l n (nat_abs (word l at))) ≡ map key_at (places F l n (nat_abs (word l at)))
          → (has (places F l n (nat_abs (word l at))) j ≡ true → look (chain F l n (nat_abs (word l at))) (key_at j) k ≡ entry_at F l (record_at F j) k)
          → look (chain F l (suc n) at) (key_at j) k ≡ entry_at F l (record_at F j) k
      go true b r m ih =
          let z : at ≡ record_at F j = sym at_is ∙ ap (record_at F) (eqb-true ((at - header_size) / record_size F) j b) in
          ap (λ (t : Bool). cond t (entry_at F l at k) (look (chain F l n (nat_abs (word l at))) (key_at j) k)) (eq-eqb (key_at j) (store_at l at) (ap (store_at l) (sym z))) ∙ ap (λ (a : ℕ). entry_at F l a k) z
      go false b r m ih =
          let a : Above (store_at l at) (map key_at (places F l n (nat_abs (word l at)))) = subst (Above (store_at l at)) m s.1.0 in
          let q : before (store_at l at) (key_at j) ≡ true = above_has key_at (store_at l at) (places F l n (nat_abs (word l at))) a j r in
          let apart = ne_eqb (key_at j) (store_at l at) (λ v. true≢false (sym (eq-eqb (store_at l at) (key_at j) (sym v)) ∙ before_apart (store_at l at) (key_at j) q)) in
          ap (λ (t : Bool). cond t (entry_at F l at k) (look (chain F l n (nat_abs (word l at))) (key_at j) k)) apart ∙ ih r

  module _ (e : well_formed_in F l ≡ true) where
    below : (ps : List ℕ) → All (λ (p : ℕ). (p < count_at l) × Unit {0}) ps → All (λ (p : ℕ). p < count_at l) ps
    below [] a = tt
    below (p ∷ ps) a = (a.0.0, below ps a.1)

    along : All (λ (p : ℕ). (p < count_at l) × Unit {0}) (places F l (count_at l) (nat_abs (word l 3))) × (keys (chain F l (count_at l) (nat_abs (word l 3))) ≡ map key_at (places F l (count_at l) (nat_abs (word l 3))))
    along = passed (λ (at : ℕ). Unit {0}) (λ n at o h. tt) (count_at l) (nat_abs (word l 3)) (begin_in F l e)

    rising : Sorted (map key_at (places F l (count_at l) (nat_abs (word l 3))))
    rising = subst Sorted along.1 (sorted_in F l e)

    every-place : (j : ℕ) → j < count_at l → has (places F l (count_at l) (nat_abs (word l 3))) j ≡ true
    every-place = covers key_at (count_at l) (places F l (count_at l) (nat_abs (word l 3))) rising (below (places F l (count_at l) (nat_abs (word l 3))) along.0) (length-places F l (count_at l) (nat_abs (word l 3)))

    -- what is known of every record on the way is known of each of them
    pub each_record : (Q : ℕ → Type 0) → ((n at : ℕ) → OnwardIn F l n at → 0 < n → Q at) → (j : ℕ) → j < count_at l → Q (record_at F j)
    each_record Q q j h =
        (pick (λ (p : ℕ). (p < count_at l) × Q (record_at F p)) j (places F l (count_at l) (nat_abs (word l 3))) (passed Q q (count_at l) (nat_abs (word l 3)) (begin_in F l e)).0 (every-place j h)).1

    pub visits_each : (j : ℕ) → j < count_at l → visits j (places F l (count_at l) (nat_abs (word l 3))) ≡ 1
    visits_each j h = once key_at j (places F l (count_at l) (nat_abs (word l 3))) rising (every-place j h)

    -- the stores along the chain are those of the places that are passed
    pub stores_passed : keys (chain F l (count_at l) (nat_abs (word l 3))) ≡ map key_at (places F l (count_at l) (nat_abs (word l 3)))
    stores_passed = along.1

    pub places_below : All (λ (p : ℕ). p < count_at l) (places F l (count_at l) (nat_abs (word l 3)))
    places_below = below (places F l (count_at l) (nat_abs (word l 3))) along.0

    pub found_record : (j k : ℕ) → j < count_at l → look (read_back_in F l) (store_at l (record_at F j)) k ≡ entry_at F l (record_at F j) k
    found_record j k h = found (count_at l) (nat_abs (word l 3)) (begin_in F l e) (sorted_in F l e) j (every-place j h) k

pub visits_once : VisitsOnce
visits_once = visits_each
