-- The block of a store while it is summed branch by branch, on and above the diagonal: its first branch is written, and the others are added.
use mathlib.Core.Path.{◌≡◌, refl, sym, ap, ◌∙◌, subst, subst₂}
use mathlib.Core.Bool.{Bool, true, false, cond, not, ◌&&◌}
use mathlib.Core.List.{List}
use Prim.Native.Nat.{ℕ, zero, suc, ◌+◌, ◌*◌, ◌/◌, ◌%◌, ◌≤◌, ◌<◌}
use native.Mathlib.Nat.{le_refl, div-add-mod'}
use native.Mathlib.Numerals.{add-one}
use native.Mathlib.Omega.{arith}
use lib.Arith.{digits_lt, digits_div, digits_mod}
use lib.ListN.{length}
use lib.IntN.{ℤ}
use lib.Dec.{leb}
use borrow.Author.Tests.{eq-eqb, le-leb, not-true}
use Rattle.algebra.specs.Quadratic.{conjugate}
use Rattle.algebra.proofs.Quadratic.{ℤ√2i}
use Rattle.algebra.proofs.Tests.{and_split, all-at}
use Rattle.algebra.proofs.Blocks.{wrote, long, blocks-same, blocks_over}
use Rattle.exact.specs.Exact.{Number, numbers, root2, is_zero, list_of, max_numerator}
use Rattle.exact.specs.Inner.Sizes.{Within}
use Rattle.share.specs.Share.{number_in, with_numerators}
use Rattle.share.proofs.Numbers.{number-filled}
use Rattle.overlaps.specs.Inner.Overlap.{upper_added, upper_written, Block, Liftable, Upper, Fresh}
use Rattle.collect.specs.Inner.Bank.{place, store_of, survives, has, is_first, starts, largest, raised, numerators, summed, Bank}
use Rattle.collect.proofs.Numerators.{reached, largest-small, entry_is, sum-within}

-- ---- one branch more
module _ (l : List ℤ) (at d e : ℕ) where
  -- entry (r, c) with the overlap of branch n added
  abbrev more : ℕ → ℕ → ℕ → Number → Number
  more n r c x = numbers.◌⊕◌ x (numbers.◌⊗◌ (raised l at d e n r) (conjugate root2 (raised l at d e n c)))

  sum_step : (n s r c : ℕ) (t : Bool) → has l at d s n ≡ t → numerators l at d e (n + 1) s r c ≡ cond t (more n r c (numerators l at d e n s r c)) (numerators l at d e n s r c)
  unfolding numerators
  sum_step n s r c t q = ap (λ (k : ℕ). numerators l at d e k s r c) (add-one n) ∙ ap (λ (b : Bool). cond b (more n r c (numerators l at d e n s r c)) (numerators l at d e n s r c)) q

  -- branches that have not the store
  none-summed : (s r c n : ℕ) → ((j : ℕ) → j < n → has l at d s j ≡ false) → numerators l at d e n s r c ≡ numbers.𝟘
  unfolding numerators
  none-summed s r c zero h = refl
  none-summed s r c (suc n) h = ap (λ (t : Bool). cond t (more n r c (numerators l at d e n s r c)) (numerators l at d e n s r c)) (h n (omega arith)) ∙ none-summed s r c n (λ j p. h j (omega arith))

  -- the first that has its store
  module _ (b : ℕ) (first : starts l at d b ≡ true) where
    pub has_own : has l at d (store_of l at d b) b ≡ true
    has_own = λ i. eq-eqb (store_of l at d b) (store_of l at d b) refl i && (and_split (survives l at d b) (is_first l at d b) first).0 i

    pub first-summed : (r c : ℕ) → numerators l at d e (b + 1) (store_of l at d b) r c ≡ numbers.◌⊗◌ (raised l at d e b r) (conjugate root2 (raised l at d e b c))
    first-summed r c =
        sum_step b (store_of l at d b) r c true has_own
        ∙ ap (more b r c) (none-summed (store_of l at d b) r c b (λ j h. not-true _ (all-at b (λ (j : ℕ). not (has l at d (store_of l at d b) j)) (and_split (survives l at d b) (is_first l at d b) first).1 j h)))
        ∙ ℤ√2i.zero-add (numbers.◌⊗◌ (raised l at d e b r) (conjugate root2 (raised l at d e b c)))

-- ---- q is m with the block at `out` of the first j branches that have the store of branch b
pub record Summed (m : List ℤ) (out : ℕ) (l : List ℤ) (at d e b : ℕ) (q : List ℤ) (j : ℕ) : Type 0 where
  pub is : q ≡ with_numerators m out (d * d * (d * d)) (summed m out l at d e b j)

-- entry k with x on and above the diagonal
with : List ℤ → ℕ → List ℤ → ℕ → ℕ → ℕ → ℕ → ℕ → Number → Number
with m out l at d e b k x = cond (leb (k / (d * d)) (k % (d * d))) x (cond (is_zero (raised l at d e b (k / (d * d)))) numbers.𝟘 (number_in m (out + k * 4)))

module _ {m : List ℤ} {out : ℕ} {l : List ℤ} {at d e b : ℕ} where
  pub first_written : starts l at d b ≡ true → {q : List ℤ} → q ≡ with_numerators m out (d * d * (d * d)) (upper_written m out l (place at d b) (d * d) e) → Summed m out l at d e b q (b + 1)
  unfolding with
  first_written first f = record { is = f ∙ blocks-same 4 m out (d * d * (d * d)) _ _ (λ k h. ap list_of (one k)) }
    where
      one : (k : ℕ) → upper_written m out l (place at d b) (d * d) e k ≡ summed m out l at d e b (b + 1) k
      one k =
          let r = k / (d * d) in
          let c = k % (d * d) in
          let term = numbers.◌⊗◌ (raised l at d e b r) (conjugate root2 (raised l at d e b c)) in
          ap (λ (i : ℕ). cond (leb r c) term (cond (is_zero (raised l at d e b r)) numbers.𝟘 (number_in m (out + i * 4)))) (div-add-mod' k (d * d))
          ∙ ap (with m out l at d e b k) (sym (first-summed l at d e b first r c))

  -- a branch that has not the store is passed over
  pub summed_past : {q : List ℤ} {j : ℕ} → Summed m out l at d e b q j → has l at d (store_of l at d b) j ≡ false → Summed m out l at d e b q (j + 1)
  unfolding with
  summed_past {q} {j} ws h =
      record { is = ws.is ∙ blocks-same 4 m out (d * d * (d * d)) _ _ (λ k p. ap list_of (ap (with m out l at d e b k) (sym (sum_step l at d e j (store_of l at d b) (k / (d * d)) (k % (d * d)) false h)))) }

  module _ {q : List ℤ} {j : ℕ} (ws : Summed m out l at d e b q j) where
    pub summed_long : length q ≡ length m
    summed_long = long (wrote {s = 4} {l = m} {at = out} {n = d * d * (d * d)} {f = λ (k : ℕ). list_of (summed m out l at d e b j k)} (λ k. le_refl 4) ws.is)

    module _ (room : out + d * d * (d * d) * 4 ≤ length m) where
      pub number_is : (k : ℕ) → k < d * d * (d * d) → number_in q (out + k * 4) ≡ summed m out l at d e b j k
      number_is k h = ap (λ (n : List ℤ). number_in n (out + k * 4)) ws.is ∙ number-filled (summed m out l at d e b j) m out (d * d * (d * d)) k h room

      -- entry (r, c) on and above the diagonal
      pub upper_is : (r c : ℕ) → r ≤ c → c < d * d → number_in q (out + (r * (d * d) + c) * 4) ≡ numerators l at d e j (store_of l at d b) r c
      upper_is r c h hc =
          let hr : r < d * d = omega arith in
          let s = store_of l at d b in
          let below = λ (r k : ℕ). cond (is_zero (raised l at d e b r)) numbers.𝟘 (number_in m (out + k * 4)) in
          number_is (r * (d * d) + c) (digits_lt hr hc)
          ∙ (λ i. cond (leb (digits_div r hc i) (digits_mod r hc i)) (numerators l at d e j s (digits_div r hc i) (digits_mod r hc i)) (below (digits_div r hc i) (r * (d * d) + c)))
          ∙ ap (λ (t : Bool). cond t (numerators l at d e j s r c) (below r (r * (d * d) + c))) (le-leb r c h)

      -- branch j has the store, and is added
      pub summed_more : has l at d (store_of l at d b) j ≡ true → {n : List ℤ} → n ≡ with_numerators q out (d * d * (d * d)) (upper_added q out l (place at d j) (d * d) e) → Summed m out l at d e b n (j + 1)
      summed_more h {n} f =
          record {
            is =
                f
                ∙ blocks-same 4 q out (d * d * (d * d)) _ _ (λ k p. ap list_of (one k p))
                ∙ ap (λ (p : List ℤ). with_numerators p out (d * d * (d * d)) (summed m out l at d e b (j + 1))) ws.is
                ∙ blocks_over 4 m out (d * d * (d * d)) _ _ (λ i. refl) (λ i. refl) room;
          }
        where
          one : (k : ℕ) → k < d * d * (d * d) → upper_added q out l (place at d j) (d * d) e k ≡ summed m out l at d e b (j + 1) k
          one k p = go (leb r c) (number_is k p) (sum_step l at d e j (store_of l at d b) r c true h)
            where
              r : ℕ
              r = k / (d * d)

              c : ℕ
              c = k % (d * d)

              old : Number
              old = numerators l at d e j (store_of l at d b) r c

              below : Number
              below = cond (is_zero (raised l at d e b r)) numbers.𝟘 (number_in m (out + k * 4))

              go : (t : Bool) → number_in q (out + k * 4) ≡ cond t old below → numerators l at d e (j + 1) (store_of l at d b) r c ≡ more l at d e j r c old
                  → cond t (more l at d e j r c (number_in q (out + k * 4))) (number_in q (out + k * 4)) ≡ cond t (numerators l at d e (j + 1) (store_of l at d b) r c) below
              go true q f = ap (more l at d e j r c) q ∙ sym f
              go false q f = q

-- ---- a bank's branches over its largest power of two
module _ {l : List ℤ} {at d n : ℕ} (bank : Bank l at d n) where
  liftable : {k e j : ℕ} → k ≡ place at d j → e ≡ largest l at d n → j < n → Liftable l k (d * d) e
  liftable {j = j} p q h =
      subst₂ (λ (k e : ℕ). Liftable l k (d * d) e) (sym p) (sym q)
      (record { factors = bank.entries j h; reached = reached l at d n j h; small = largest-small bank n (le_refl n) })

  -- branch b may be written, branch j be added, and the block of all be mirrored
  module _ {m : List ℤ} {out b : ℕ} (hb : b < n) (room : out + d * d * (d * d) * 4 ≤ length m) where
    pub writable : {k e : ℕ} → k ≡ place at d b → e ≡ largest l at d n → Fresh m out l k (d * d) e
    writable p q = record { room = room; lift = liftable p q hb }

    pub block_asks : {e : ℕ} → e ≡ largest l at d n → {q : List ℤ} {j : ℕ} → Summed m out l at d e b q j → j ≤ n → Block q out (d * d)
    block_asks {e} big {q} {j} ws h = record { room = omega (arith, room, summed_long ws); sums = sums }
      where
        sums : (r c : ℕ) → r ≤ c → c < d * d → Within max_numerator (number_in q (out + (r * (d * d) + c) * 4))
        sums r c le hc =
            let hr : r < d * d = omega arith in
            let s = store_of l at d b in
            subst (λ (z : Number). Within max_numerator z) (sym (upper_is ws room r c le hc ∙ ap (λ (i : ℕ). numerators l at d i j s r c) big))
            (sum-within (numerators l at d (largest l at d n) j s r c) (largest l at d n + largest l at d n) _ (omega (arith, largest-small bank n (le_refl n))) (entry_is bank s r c j h) (bank.sums b j r c hb h hr hc))

    pub addable : {e : ℕ} → e ≡ largest l at d n → {q : List ℤ} {j : ℕ} → Summed m out l at d e b q j → {k : ℕ} → k ≡ place at d j → j < n → Upper q out l k (d * d) e
    addable big ws p h = record { block = block_asks big ws (omega arith); lift = liftable p big h }
