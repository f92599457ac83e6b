-- Placing small matrices on qubits respects products, adjoints and the identity; so where the M†M of small matrices add up to 1, those of
-- the embedded matrices do.
use mathlib.Core.Path.{◌≡◌, refl, sym, ap, ap₂, ◌∙◌}
use mathlib.Core.Logic.{◌≢◌}
use mathlib.Core.Bool.{Bool, true, false, cond, not, ◌&&◌, ◌||◌, true≢false}
use mathlib.Core.List.{List, [], ◌∷◌, map}
use Prim.Native.Nat.{ℕ, zero, suc, ◌-◌, ◌^◌, ◌<◌}
use native.Mathlib.Omega.{arith}
use lib.Dec.{eqb}
use lib.ListN.{length}
use borrow.Author.Tests.{eqb-true, eqb-false, eq-eqb, not-true}
use Rattle.algebra.specs.Sum.{sum, list_sum, times, δ}
use Rattle.algebra.specs.Lists.{All, all_below}
use Rattle.algebra.proofs.Tests.{and_split, or_no, eqb_same}
use Rattle.algebra.proofs.Lists.{all_imp, all_append, all_map}
use Rattle.algebra.proofs.Semi.{Semi, add-zero, zero-mul}
use Rattle.algebra.proofs.Sum.{sum_same, sum_one, list_sum-same, list_sum-all, list_sum-zero, list_sum_append, list_sum_map, sum-list_sum}
use Rattle.algebra.proofs.Adjoint.{Star, δ-same, δ-apart, dot}
use Rattle.gate.specs.Gate.{elem, distinct}
use Rattle.gate.specs.Operators.{same_bits}
use Rattle.gate.specs.Embed.{bit, bits_of, agree, embed}
use Rattle.gate.specs.Embedding.{adjoint, basis, product}
use Rattle.gate.proofs.Gate.{elem_in}
use Rattle.gate.proofs.Bits.{Word, same_refl, same_true, low, make, make_below, low_make, binary}
use Rattle.gate.proofs.Embed.{agree_at, agree-by}

basis-words : (m : ℕ) → All (Word m) (basis m)
basis-words zero = ((refl, tt), tt)
basis-words (suc m) = all_append (Word (suc m)) (map (λ (x : List ℕ). 0 ∷ x) (basis m)) (map (λ (x : List ℕ). 1 ∷ x) (basis m)) (front 0 (omega arith) (basis-words m)) (front 1 (omega arith) (basis-words m))
  where
    front : (b : ℕ) → b < 2 → All (Word m) (basis m) → All (Word (suc m)) (map (λ (x : List ℕ). b ∷ x) (basis m))
    front b l = all_map (Word m) (Word (suc m)) (λ (x : List ℕ). b ∷ x) (λ x w. (ap suc w.0, (l, w.1))) (basis m)

below_same : (n : ℕ) (p q : ℕ → Bool) → ((k : ℕ) → k < n → p k ≡ q k) → all_below n p ≡ all_below n q
below_same zero p q h = refl
below_same (suc n) p q h = ap₂ ◌&&◌ (below_same n p q (λ k l. h k (omega arith))) (h n (omega arith))

maps_agree : (f g : ℕ → ℕ) (qs : List ℕ) → map f qs ≡ map g qs → All (λ (q : ℕ). f q ≡ g q) qs
maps_agree f g [] e = tt
maps_agree f g (q ∷ qs) e = (cc, maps_agree f g qs (cc))

module _ (n : ℕ) where
  agree_of : (qs : List ℕ) (r k c : ℕ) → ((q : ℕ) → q < n → elem q qs ≡ false → bit n q r ≡ bit n q k) → agree n qs r c ≡ agree n qs k c
  agree_of qs r k c h = below_same n _ _ (λ q l. go q l (elem q qs) refl)
    where
      go : (q : ℕ) → q < n → (b : Bool) → elem q qs ≡ b → b || eqb (bit n q r) (bit n q c) ≡ b || eqb (bit n q k) (bit n q c)
      go q l true e = refl
      go q l false e = ap (λ (x : ℕ). eqb x (bit n q c)) (h q l e)

  agree-turn : (qs : List ℕ) (r c : ℕ) → agree n qs r c ≡ agree n qs c r
  agree-turn qs r c = below_same n _ _ (λ q l. ap (λ (b : Bool). elem q qs || b) (eqb_same (bit n q r) (bit n q c) (bit n q c) (bit n q r) (λ e. sym e) (λ e. sym e)))

  tells : (qs : List ℕ) (r c : ℕ) → r < 2 ^ n → c < 2 ^ n → bits_of n qs r ≡ bits_of n qs c → agree n qs r c ≡ true → r ≡ c
  tells qs r c l m e f = (binary n).tells r c l m (λ q j. go q j (elem q qs) refl)
    where
      go : (q : ℕ) → q < n → (b : Bool) → elem q qs ≡ b → bit n q r ≡ bit n q c
      go q j true h = elem_in (λ (p : ℕ). bit n p r ≡ bit n p c) qs (maps_agree (λ (p : ℕ). bit n p r) (λ (p : ℕ). bit n p c) qs e) q h
      go q j false h = agree_at n qs r c f q j h

  bits-word : (qs : List ℕ) (r : ℕ) → Word (length qs) (bits_of n qs r)
  bits-word [] r = (refl, tt)
  bits-word (s ∷ qs) r = let h = bits-word qs r in (ap suc h.0, (omega arith, h.1))

  -- the bits xs at the places qs, and those of k elsewhere
  abbrev at : List ℕ → List ℕ → ℕ → ℕ → ℕ
  at [] xs k q = bit n q k
  at (s ∷ qs) [] k q = bit n q k
  at (s ∷ qs) (x ∷ xs) k q = cond (eqb q s) x (at qs xs k q)

  at_below : (qs xs : List ℕ) (k q : ℕ) → All (λ (x : ℕ). x < 2) xs → at qs xs k q < 2
  at_below [] xs k q h = omega arith
  at_below (s ∷ qs) [] k q h = omega arith
  at_below (s ∷ qs) (x ∷ xs) k q h = go (eqb q s) (at_below qs xs k q h.1)
    where
      go : (b : Bool) → at qs xs k q < 2 → cond b x (at qs xs k q) < 2
      go true r = h.0
      go false r = r

  at_off : (qs xs : List ℕ) (k q : ℕ) → elem q qs ≡ false → at qs xs k q ≡ bit n q k
  at_off [] xs k q e = refl
  at_off (s ∷ qs) [] k q e = refl
  at_off (s ∷ qs) (x ∷ xs) k q e = go (eqb q s) e (at_off qs xs k q)
    where
      go : (b : Bool) → b || elem q qs ≡ false → (elem q qs ≡ false → at qs xs k q ≡ bit n q k) → cond b x (at qs xs k q) ≡ bit n q k
      go true f r = absurd (true≢false f)
      go false f r = r f

  at_on : (qs xs : List ℕ) (k : ℕ) → length xs ≡ length qs → distinct qs ≡ true → map (at qs xs k) qs ≡ xs
  at_on [] [] k e a = refl
  at_on [] (x ∷ xs) k e a = absurd (omega arith)
  at_on (s ∷ qs) [] k e a = absurd (omega arith)
  at_on (s ∷ qs) (x ∷ xs) k e a =
      let (off, apart) = and_split (not (elem s qs)) (distinct qs) a in
      ap₂ ◌∷◌ (ap (λ (b : Bool). cond b x (at qs xs k s)) (eq-eqb s s refl)) (others qs (not-true (elem s qs) off) ∙ at_on qs xs k (omega arith) apart)
    where
      skip : (t : ℕ) → eqb s t ≡ false → (b : Bool) → eqb t s ≡ b → cond b x (at qs xs k t) ≡ at qs xs k t
      skip t f true g = absurd (eqb-false s t f (sym (eqb-true t s g)))
      skip t f false g = refl

      others : (ts : List ℕ) → elem s ts ≡ false → map (at (s ∷ qs) (x ∷ xs) k) ts ≡ map (at qs xs k) ts
      others [] f = refl
      others (t ∷ ts) f = let p = or_no (eqb s t) (elem s ts) f in ap₂ ◌∷◌ (skip t p.0 (eqb t s) refl) (others ts p.1)

  spread : List ℕ → List ℕ → ℕ → ℕ
  spread qs xs k = make n (λ (w : ℕ). at qs xs k (n - 1 - w))

  module _ (qs xs : List ℕ) (k : ℕ) (small : All (λ (x : ℕ). x < 2) xs) where
    spread_below : spread qs xs k < 2 ^ n
    unfolding spread
    spread_below = make_below n (λ (w : ℕ). at qs xs k (n - 1 - w)) (λ w. at_below qs xs k (n - 1 - w) small)

    spread_bit : (q : ℕ) → q < n → bit n q (spread qs xs k) ≡ at qs xs k q
    unfolding spread low
    spread_bit q l =
        low_make n (λ (w : ℕ). at qs xs k (n - 1 - w)) (λ w. at_below qs xs k (n - 1 - w) small) (n - 1 - q) (omega arith)
        ∙ ap (at qs xs k) (omega arith)

    spread_off : (q : ℕ) → q < n → elem q qs ≡ false → bit n q (spread qs xs k) ≡ bit n q k
    spread_off q l e = spread_bit q l ∙ at_off qs xs k q e

    spread_on : All (λ (q : ℕ). q < n) qs → length xs ≡ length qs → distinct qs ≡ true → bits_of n qs (spread qs xs k) ≡ xs
    spread_on fit e a = go qs fit ∙ at_on qs xs k e a
      where
        go : (ts : List ℕ) → All (λ (q : ℕ). q < n) ts → map (λ (q : ℕ). bit n q (spread qs xs k)) ts ≡ map (at qs xs k) ts
        go [] f = refl
        go (t ∷ ts) f = ap₂ ◌∷◌ (spread_bit t f.0) (go ts f.1)

module _ (𝓡 : Semi) where
  infixl 60 ◌⊕◌
  infixl 70 ◌⊗◌
  open 𝓡 use {R, ops, zero-add, mul_zero}
  open 𝓡.ops use {𝟘, 𝟙, ◌⊕◌, ◌⊗◌}

  -- each word is one basis state
  once : (m : ℕ) (y : List ℕ) → Word m y → (a b : R) → list_sum ops (λ (x : List ℕ). cond (same_bits x y) a 𝟘 ⊗ b) (basis m) ≡ a ⊗ b
  once zero [] w a b = add-zero 𝓡 a b
  once zero (y ∷ ys) w a b = absurd (omega (arith, w.0))
  once (suc m) [] w a b = absurd (omega (arith, w.0))
  once (suc m) (y ∷ ys) w a b =
      list_sum_append 𝓡 _ (map (λ (x : List ℕ). 0 ∷ x) (basis m)) (map (λ (x : List ℕ). 1 ∷ x) (basis m))
      ∙ ap₂ ◌⊕◌ (list_sum_map 𝓡 _ (λ (x : List ℕ). 0 ∷ x) (basis m)) (list_sum_map 𝓡 _ (λ (x : List ℕ). 1 ∷ x) (basis m))
      ∙ go (eqb 0 y) (eqb 1 y) refl refl (once m ys (omega (arith, w.0), w.1.1) a b)
    where
      half : Bool → R
      half c = list_sum ops (λ (x : List ℕ). cond (c && same_bits x ys) a 𝟘 ⊗ b) (basis m)

      none : half false ≡ 𝟘
      none = list_sum-zero 𝓡 _ (basis m) (λ x. zero-mul 𝓡 b)

      go : (c e : Bool) → eqb 0 y ≡ c → eqb 1 y ≡ e → half true ≡ a ⊗ b → half c ⊕ half e ≡ a ⊗ b
      go true true f g r = absurd (omega (arith, eqb-true 0 y f, eqb-true 1 y g))
      go true false f g r = ap₂ ◌⊕◌ r none ∙ add-zero 𝓡 a b
      go false true f g r = ap₂ ◌⊕◌ none r ∙ zero-add a b
      go false false f g r = absurd (omega (arith, w.1.0, eqb-false 0 y f, eqb-false 1 y g))

  module _ (n : ℕ) (qs : List ℕ) where
    pub embed-identity : (r c : ℕ) → r < 2 ^ n → c < 2 ^ n → embed ops n qs (λ (x y : List ℕ). cond (same_bits x y) 𝟙 𝟘) r c ≡ δ ops r c
    embed-identity r c l m = go (agree n qs r c) refl (same_bits (bits_of n qs r) (bits_of n qs c)) refl
      where
        go : (a : Bool) → agree n qs r c ≡ a → (b : Bool) → same_bits (bits_of n qs r) (bits_of n qs c) ≡ b → cond a (cond b 𝟙 𝟘) 𝟘 ≡ δ ops r c
        go true e true f = sym (ap (δ ops r) (sym (tells n qs r c l m (same_true (bits_of n qs r) (bits_of n qs c) f) e)) ∙ δ-same ops r)
        go true e false f = sym (δ-apart ops r c (λ g. true≢false (sym (ap (λ (k : ℕ). same_bits (bits_of n qs r) (bits_of n qs k)) (sym g) ∙ same_refl (bits_of n qs r)) ∙ f)))
        go false e b f = sym (δ-apart ops r c (λ g. true≢false (sym (ap (agree n qs r) (sym g) ∙ agree-by n qs r r (λ q v w. refl)) ∙ e)))

    module _ (fit : All (λ (q : ℕ). q < n) qs) (apart : distinct qs ≡ true) (u v : List ℕ → List ℕ → R) (r c : ℕ) where
      abbrev row : ℕ → R
      row = embed ops n qs u r

      abbrev column : ℕ → R
      column k = embed ops n qs v k c

      -- of all k with the bits x on the qubits, one counts: the one that is r elsewhere
      one_word : (x : List ℕ) → Word (length qs) x
          → sum ops (2 ^ n) (λ (k : ℕ). cond (same_bits x (bits_of n qs k)) (row k) 𝟘 ⊗ column k) ≡ u (bits_of n qs r) x ⊗ cond (agree n qs r c) (v x (bits_of n qs c)) 𝟘
      one_word x w =
          sum_one 𝓡 (2 ^ n) i (λ (k : ℕ). cond (same_bits x (bits_of n qs k)) (row k) 𝟘) column (spread_below n qs x r w.1) (λ k j e. other k j e (same_bits x (bits_of n qs k)) refl (agree n qs r k) refl)
          ∙ ap (λ (b : Bool). cond b (row i) 𝟘 ⊗ column i) (ap (same_bits x) on ∙ same_refl x)
          ∙ ap₂ (λ (a b : Bool). cond a (u (bits_of n qs r) (bits_of n qs i)) 𝟘 ⊗ cond b (v (bits_of n qs i) (bits_of n qs c)) 𝟘)
          (agree-by n qs r i (λ q j e. sym (off q j e))) (agree_of n qs i r c off)
          ∙ ap (λ (y : List ℕ). u (bits_of n qs r) y ⊗ cond (agree n qs r c) (v y (bits_of n qs c)) 𝟘) on
        where
          i : ℕ
          i = spread n qs x r

          on : bits_of n qs i ≡ x
          on = spread_on n qs x r w.1 fit w.0 apart

          off : (q : ℕ) → q < n → elem q qs ≡ false → bit n q i ≡ bit n q r
          off q j e = spread_off n qs x r w.1 q j e

          other : (k : ℕ) → k < 2 ^ n → k ≢ i → (b : Bool) → same_bits x (bits_of n qs k) ≡ b → (a : Bool) → agree n qs r k ≡ a
              → cond b (cond a (u (bits_of n qs r) (bits_of n qs k)) 𝟘) 𝟘 ⊗ column k ≡ 𝟘
          other k j e false f a g = zero-mul 𝓡 (column k)
          other k j e true f false g = zero-mul 𝓡 (column k)
          other k j e true f true g =
              absurd (e (tells n qs k i j (spread_below n qs x r w.1) (sym (same_true x (bits_of n qs k) f) ∙ sym on)
              (agree-by n qs k i (λ q v h. sym (agree_at n qs r k g q v h) ∙ sym (off q v h)))))

      pub embed-product : embed ops n qs (product ops (length qs) u v) r c ≡ times ops (2 ^ n) (embed ops n qs u) (embed ops n qs v) r c
      embed-product = sym (
          sum_same 𝓡 (2 ^ n) _ _ (λ k j. sym (once (length qs) (bits_of n qs k) (bits-word n qs k) (row k) (column k)))
          ∙ sum-list_sum 𝓡 (2 ^ n) (λ (k : ℕ) (x : List ℕ). cond (same_bits x (bits_of n qs k)) (row k) 𝟘 ⊗ column k) (basis (length qs))
          ∙ list_sum-all 𝓡 _ (λ (x : List ℕ). u (bits_of n qs r) x ⊗ cond (agree n qs r c) (v x (bits_of n qs c)) 𝟘) (basis (length qs)) (all_imp (Word (length qs)) _ (basis (length qs)) one_word (basis-words (length qs)))
          ∙ go (agree n qs r c))
        where
          go : (b : Bool) → list_sum ops (λ (x : List ℕ). u (bits_of n qs r) x ⊗ cond b (v x (bits_of n qs c)) 𝟘) (basis (length qs)) ≡ cond b (product ops (length qs) u v (bits_of n qs r) (bits_of n qs c)) 𝟘
          go true = refl
          go false = list_sum-zero 𝓡 _ (basis (length qs)) (λ x. mul_zero (u (bits_of n qs r) x))

  module _ (𝓢 : Star 𝓡) where
    open 𝓢 use {conj, conj_zero}

    pub embed-adjoint : (n : ℕ) (qs : List ℕ) (u : List ℕ → List ℕ → R) (r c : ℕ) → embed ops n qs (adjoint conj u) r c ≡ conj (embed ops n qs u c r)
    embed-adjoint n qs u r c = ap (λ (b : Bool). cond b (conj (u (bits_of n qs c) (bits_of n qs r))) 𝟘) (agree-turn n qs r c) ∙ go (agree n qs c r)
      where
        go : (b : Bool) → cond b (conj (u (bits_of n qs c) (bits_of n qs r))) 𝟘 ≡ conj (cond b (u (bits_of n qs c) (bits_of n qs r)) 𝟘)
        go true = refl
        go false = sym conj_zero

    -- small matrices, one for each of os, whose M†M add up to 1
    abbrev pub Isometry : {O : Type 0} → ℕ → (O → List ℕ → List ℕ → R) → List O → Type 0
    Isometry {O} m u os = (y z : List ℕ) → Word m y → Word m z → list_sum ops (λ (o : O). product ops m (adjoint conj (u o)) (u o) y z) os ≡ cond (same_bits y z) 𝟙 𝟘

    pub embed_isometry : {O : Type 0} (n : ℕ) (qs : List ℕ) → All (λ (q : ℕ). q < n) qs → distinct qs ≡ true → (u : O → List ℕ → List ℕ → R) (os : List O) → Isometry (length qs) u os
        → (k l : ℕ) → k < 2 ^ n → l < 2 ^ n → list_sum ops (λ (o : O). dot 𝓡 𝓢 (2 ^ n) (embed ops n qs (u o)) k l) os ≡ δ ops k l
    embed_isometry {O} n qs fit apart u os h k l j m =
        list_sum-same 𝓡 _ _ os (λ o. sum_same 𝓡 (2 ^ n) _ _ (λ r i. ap (λ (x : R). x ⊗ embed ops n qs (u o) r l) (sym (embed-adjoint n qs (u o) k r)))
        ∙ sym (embed-product n qs fit apart (adjoint conj (u o)) (u o) k l))
        ∙ go (agree n qs k l)
        ∙ ap (λ (x : R). cond (agree n qs k l) x 𝟘) (h (bits_of n qs k) (bits_of n qs l) (bits-word n qs k) (bits-word n qs l))
        ∙ embed-identity n qs k l j m
      where
        entry : O → R
        entry o = product ops (length qs) (adjoint conj (u o)) (u o) (bits_of n qs k) (bits_of n qs l)

        go : (a : Bool) → list_sum ops (λ (o : O). cond a (entry o) 𝟘) os ≡ cond a (list_sum ops entry os) 𝟘
        go true = refl
        go false = list_sum-zero 𝓡 _ os (λ o. refl)
