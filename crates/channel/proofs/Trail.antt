-- Along the chain of well-formed words: it visits each record once, and each index is that of the next store.
use mathlib.Core.Path.{◌≡◌, refl, sym, ap, ◌∙◌, subst}
use mathlib.Core.Bool.{Bool, true, false, not, ◌&&◌, ◌||◌, true≢false}
use mathlib.Core.List.{List, [], ◌∷◌, map}
use Prim.Native.Nat.{ℕ, zero, suc, ◌+◌, ◌*◌, ◌-◌, ◌/◌, ◌%◌, ◌<◌, ◌≤◌}
use native.Mathlib.Nat.{div-add-mod'}
use native.Mathlib.Omega.{arith}
use lib.Dec.{eqb, leb}
use lib.ListN.{length}
use lib.IntN.{ℤ, pos, negsuc, nat_abs}
use borrow.Author.Tests.{ltb-true, leb-true, eqb-true, eq-eqb, ne_eqb}
use Rattle.algebra.specs.Lists.{some}
use Rattle.algebra.proofs.Tests.{and_split}
use Rattle.algebra.proofs.Signed.{eqℤ-true}
use Rattle.store.specs.Store.{before}
use Rattle.channel.specs.Layout.{word, store_at, least, Form, record_size, record_at, link}
use Rattle.channel.specs.WellFormed.{store_ok, rises, is_start, block_ok, record_ok, chain_ok}
use Rattle.store.proofs.Order.{before_irrefl, before_trans}
use Rattle.channel.proofs.Sorted.{Above, above_trans}
use Rattle.channel.proofs.Least.{Least, none, some as found, least_is, tally, tally-all, tally-some, tally-one}

abbrev after : Bool → ℕ → ℕ → Bool
after first prev s = first || before prev s

-- an index at which a record starts is that of one of the n records
record Starts (F : Form) (n : ℕ) (z : ℤ) : Type 0 where
  place : ℕ
  below : place < n
  is : z ≡ pos (record_at F place)

starts : (F : Form) (n : ℕ) (z : ℤ) → is_start F n z ≡ true → Starts F n z
starts F n (negsuc a) e = absurd (true≢false (sym e))
starts F n (pos a) e =
    let t = and_split (leb 4 a) _ e in
    let u = and_split (eqb ((a - 4) % record_size F) 0) _ t.1 in
    record { place = (a - 4) / record_size F; below = ltb-true _ n u.1; is = ap pos (whole (record_size F) (leb-true 4 a t.0) (eqb-true _ 0 u.0)) }
  where
    whole : (s : ℕ) → 4 ≤ a → (a - 4) % s ≡ 0 → a ≡ 4 + (a - 4) / s * s
    whole s h z = omega (arith, div-add-mod' (a - 4) s)

abbrev pub has : List ℕ → ℕ → Bool
has ps j = some (λ (p : ℕ). eqb p j) ps

module _ (F : Form) (l : List ℤ) (m n : ℕ) where
  abbrev st : ℕ → ℕ
  st j = store_at l (record_at F j)

  -- the places of the records from index z on
  pub data Trail : ℤ → Bool → ℕ → List ℕ → Type 0 where
    end : {z : ℤ} {first : Bool} {prev : ℕ} → z ≡ pos 0 → Trail z first prev []
    on : {z : ℤ} {first : Bool} {prev : ℕ} {ps : List ℕ} (p : ℕ) → p < n → z ≡ pos (record_at F p) → store_ok l (record_at F p) m ≡ true → after first prev (st p) ≡ true
        → block_ok F l (record_at F p) ≡ true → Trail (word l (record_at F p)) false (st p) ps → Trail z first prev (p ∷ ps)

  pub record Trailed (k : ℕ) (z : ℤ) (first : Bool) (prev : ℕ) : Type 0 where
    pub places : List ℕ
    pub trail : Trail z first prev places
    pub long : length places ≡ k

  pub trailed : (k : ℕ) (z : ℤ) (first : Bool) (prev : ℕ) → chain_ok F l m n k z first prev ≡ true → Trailed k z first prev
  unfolding chain_ok
  trailed zero z first prev e = record { places = []; trail = end (eqℤ-true z (pos 0) e); long = refl }
  trailed (suc k) z first prev e = go (starts F n z t.0) (trailed k (word l (nat_abs z)) false (store_at l (nat_abs z)) u.1)
    where
      t : (is_start F n z ≡ true) × ((record_ok F l m (nat_abs z) first prev && chain_ok F l m n k (word l (nat_abs z)) false (store_at l (nat_abs z))) ≡ true)
      t = and_split (is_start F n z) _ e

      u : (record_ok F l m (nat_abs z) first prev ≡ true) × (chain_ok F l m n k (word l (nat_abs z)) false (store_at l (nat_abs z)) ≡ true)
      u = and_split (record_ok F l m (nat_abs z) first prev) _ t.1

      go : Starts F n z → Trailed k (word l (nat_abs z)) false (store_at l (nat_abs z)) → Trailed (suc k) z first prev
      go s r =
          let q = ap nat_abs s.is in
          let v = and_split (store_ok l (record_at F s.place) m) _ (subst (λ (a : ℕ). record_ok F l m a first prev ≡ true) q u.0) in
          let x = and_split (rises first prev (st s.place)) _ v.1 in
          record {
            places = s.place ∷ r.places;
            trail = on s.place s.below s.is v.0 x.0 x.1 (subst (λ (a : ℕ). Trail (word l a) false (store_at l a) r.places) q r.trail);
            long = ap suc r.long;
          }

  trail_above : {z : ℤ} {x : ℕ} {ps : List ℕ} → Trail z false x ps → Above x (map st ps)
  trail_above (end e) = tt
  trail_above {x = x} (on {ps = ps} p h q s a b r) = (a, above_trans x (st p) (map st ps) a (trail_above r))

  absent : (p : ℕ) (ps : List ℕ) → Above (st p) (map st ps) → has ps p ≡ false
  absent p [] a = refl
  absent p (q ∷ ps) a = λ i. ne_eqb q p (λ e. true≢false (sym a.0 ∙ ap (λ (k : ℕ). before (st p) (st k)) e ∙ before_irrefl (st p))) i || absent p ps a.1 i

  above_has : (x : ℕ) (ps : List ℕ) (j : ℕ) → Above x (map st ps) → has ps j ≡ true → before x (st j) ≡ true
  above_has x [] j a e = absurd (true≢false (sym e))
  above_has x (p ∷ ps) j a e = go (eqb p j) refl (above_has x ps j a.1)
    where
      go : (b : Bool) → eqb p j ≡ b → (has ps j ≡ true → before x (st j) ≡ true) → before x (st j) ≡ true
      go true t ih = ap (λ (k : ℕ). before x (st k)) (sym (eqb-true p j t)) ∙ a.0
      go false t ih = ih (sym (ap (λ (b : Bool). b || has ps j) t) ∙ e)

  -- a property of each place
  module _ (P : ℕ → Type 0) where
    pub at_each : {z : ℤ} {first : Bool} {prev : ℕ} {ps : List ℕ} → ((p : ℕ) → store_ok l (record_at F p) m ≡ true → block_ok F l (record_at F p) ≡ true → P p) → Trail z first prev ps → (j : ℕ) → has ps j ≡ true → P j
    at_each f (end e) j h = absurd (true≢false (sym h))
    at_each f (on {ps = ps} p q e s a b r) j h = go (eqb p j) refl (at_each f r j)
      where
        go : (t : Bool) → eqb p j ≡ t → (has ps j ≡ true → P j) → P j
        go true t ih = subst P (eqb-true p j t) (f p s b)
        go false t ih = ih (sym (ap (λ (b : Bool). b || has ps j) t) ∙ h)

  pub different : {z : ℤ} {first : Bool} {prev : ℕ} {ps : List ℕ} → Trail z first prev ps → (i j : ℕ) → has ps i ≡ true → has ps j ≡ true → st i ≡ st j → i ≡ j
  different (end e) i j hi hj q = absurd (true≢false (sym hi))
  different (on {ps = ps} p h e s a b r) i j hi hj q = go (eqb p i) refl (eqb p j) refl (different r i j)
    where
      rest : (k : ℕ) → eqb p k ≡ false → has (p ∷ ps) k ≡ true → has ps k ≡ true
      rest k t g = sym (ap (λ (b : Bool). b || has ps k) t) ∙ g

      clash : (x y : ℕ) → p ≡ x → st x ≡ st y → has ps y ≡ true → ⊥
      clash x y t u g = true≢false (sym (above_has (st p) ps y (trail_above r) g) ∙ ap (before (st p)) (sym u ∙ ap st (sym t)) ∙ before_irrefl (st p))

      go : (x : Bool) → eqb p i ≡ x → (y : Bool) → eqb p j ≡ y → (has ps i ≡ true → has ps j ≡ true → st i ≡ st j → i ≡ j) → i ≡ j
      go true x true y ih = sym (eqb-true p i x) ∙ eqb-true p j y
      go true x false y ih = absurd (clash i j (eqb-true p i x) q (rest j y hj))
      go false x true y ih = absurd (clash j i (eqb-true p j y) (sym q) (rest i x hi))
      go false x false y ih = ih (rest i x hi) (rest j y hj) q

  -- n different places below n are all of them
  spared : {z : ℤ} {first : Bool} {prev : ℕ} {ps : List ℕ} → Trail z first prev ps → tally n (λ (j : ℕ). not (has ps j)) + length ps ≡ n
  spared (end e) = let q = tally-all n in omega arith
  spared (on {ps = ps} p h e s a b r) = let q = spared r in let t = one in omega (arith, q, t)
    where
      one : tally n (λ (j : ℕ). not (has ps j)) ≡ suc (tally n (λ (j : ℕ). not (has (p ∷ ps) j)))
      one = tally-one n p (λ (j : ℕ). not (has ps j)) (λ (j : ℕ). not (has (p ∷ ps) j)) h (ap not (absent p ps (trail_above r))) (ap (λ (b : Bool). not (b || has ps p)) (eq-eqb p p refl))
          (λ j l u. ap (λ (b : Bool). not (b || has ps j)) (sym (ne_eqb p j (λ q. u (sym q)))))

  pub covers : {z : ℤ} {first : Bool} {prev : ℕ} {ps : List ℕ} → Trail z first prev ps → length ps ≡ n → (j : ℕ) → j < n → has ps j ≡ true
  covers {ps = ps} r e j h = go (has ps j) refl
    where
      go : (b : Bool) → has ps j ≡ b → has ps j ≡ true
      go true t = t
      go false t = absurd (omega (arith, tally-some n j (λ (j : ℕ). not (has ps j)) h (ap not t), spared r))

  -- each index is that of the least store that is to come
  abbrev Links : ℤ → Bool → ℕ → List ℕ → Type 0
  Links z first prev ps = (z ≡ pos (link F (least n st (after first prev)))) × ((j : ℕ) → has ps j ≡ true → word l (record_at F j) ≡ pos (link F (least n st (before (st j)))))

  pub linked : {z : ℤ} {first : Bool} {prev : ℕ} {ps : List ℕ} → Trail z first prev ps → ((j : ℕ) → j < n → after first prev (st j) ≡ true → has ps j ≡ true) → Links z first prev ps
  linked {first = first} {prev = prev} (end e) f = (e ∙ go (least_is n st (after first prev)), λ j h. absurd (true≢false (sym h)))
    where
      go : Least n st (after first prev) (least n st (after first prev)) → pos 0 ≡ pos (link F (least n st (after first prev)))
      go (none z g) = ap (λ (r : ℕ). pos (link F r)) (sym z)
      go (found i z h q g) = absurd (true≢false (sym (f i h q)))
  linked {z} {first} {prev} (on {ps = ps} p h e s a b r) f = (e ∙ go (least_is n st (after first prev)), here (linked r rest))
    where
      -- what comes after p is among the rest
      onward : (first : Bool) (j : ℕ) → after first prev (st p) ≡ true → before (st p) (st j) ≡ true → after first prev (st j) ≡ true
      onward true j u v = refl
      onward false j u v = before_trans prev (st p) (st j) u v

      other : (j : ℕ) → (p ≡ j → ⊥) → has (p ∷ ps) j ≡ true → has ps j ≡ true
      other j u g = sym (ap (λ (b : Bool). b || has ps j) (ne_eqb p j u)) ∙ g

      rest : (j : ℕ) → j < n → before (st p) (st j) ≡ true → has ps j ≡ true
      rest j q u = other j (λ t. true≢false (sym u ∙ ap (λ (k : ℕ). before (st p) (st k)) (sym t) ∙ before_irrefl (st p))) (f j q (onward first j a u))

      go : Least n st (after first prev) (least n st (after first prev)) → pos (record_at F p) ≡ pos (link F (least n st (after first prev)))
      go (none z g) = absurd (true≢false (sym a ∙ g p h))
      go (found i z q t g) = by (eqb p i) refl
        where
          by : (b : Bool) → eqb p i ≡ b → pos (record_at F p) ≡ pos (link F (least n st (after first prev)))
          by true u = ap (λ (k : ℕ). pos (record_at F k)) (eqb-true p i u) ∙ ap (λ (r : ℕ). pos (link F r)) (sym z)
          by false u = absurd (true≢false (sym (above_has (st p) ps i (trail_above r) (sym (ap (λ (b : Bool). b || has ps i) u) ∙ f i q t)) ∙ g p h a))

      here : Links (word l (record_at F p)) false (st p) ps → (j : ℕ) → has (p ∷ ps) j ≡ true → word l (record_at F j) ≡ pos (link F (least n st (before (st j))))
      here ih j g = by (eqb p j) refl
        where
          by : (b : Bool) → eqb p j ≡ b → word l (record_at F j) ≡ pos (link F (least n st (before (st j))))
          by true u = subst (λ (k : ℕ). word l (record_at F k) ≡ pos (link F (least n st (before (st k))))) (eqb-true p j u) ih.0
          by false u = ih.1 j (sym (ap (λ (b : Bool). b || has ps j) u) ∙ g)
