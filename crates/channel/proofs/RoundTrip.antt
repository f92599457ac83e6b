-- What is written in a form is read back as its blocks.
use mathlib.Core.Path.{◌≡◌, refl, sym, ap, ◌∙◌}
use mathlib.Core.Bool.{Bool, true, false, not, ◌&&◌, ◌||◌, true≢false}
use mathlib.Core.List.{List, [], ◌∷◌, map}
use Prim.Native.Nat.{ℕ, zero, suc, ◌+◌, ◌*◌, ◌-◌, ◌/◌, ◌%◌, ◌^◌, ◌≤◌, ◌<◌}
use native.Mathlib.Nat.{le-div_iff_mul-le, lt_of_lt_of_le, mod-lt}
use native.Mathlib.Omega.{arith}
use lib.Dec.{ltb, leb, eqb}
use lib.Pow.{pow_mono, pow_pos}
use lib.ListN.{length}
use lib.IntN.{ℤ, pos, negsuc, nat_abs, neg_ℤ}
use lib.Signed.{non_neg}
use borrow.Author.Tests.{le-leb, lt-ltb, ne_eqb}
use Rattle.algebra.specs.Lists.{All, all_below}
use Rattle.algebra.specs.Words.{eqℤ, up_to}
use Rattle.algebra.specs.Quadratic.{conjugate}
use Rattle.algebra.proofs.Tests.{and_split, all-by}
use Rattle.exact.specs.Exact.{Number, root2, number_halves, within, max_numerator, max_exponent}
use Rattle.store.specs.Store.{max_word, before}
use Rattle.channel.specs.Shared.{Shared, shared_ok}
use Rattle.channel.specs.Layout.{Block, Form, header_size, entries, record_size, record_at, word, store_at, least, link, next, numbers_at, read_back_in}
use Rattle.channel.specs.WellFormed.{is_real, store_ok, diagonal_ok, block_ok, record_ok, chain_ok, header_ok, well_formed_in}
use Rattle.channel.specs.Claims.{look, places, rising, stores_of, Writable, ReadsBack, RoundTrip}
use Rattle.channel.specs.Forms.{Alike}
use Rattle.store.proofs.Order.{before_irrefl, before_trans}
use Rattle.channel.proofs.Words.{start_is}
use Rattle.channel.proofs.Judging.{well_formed_lem}
use Rattle.channel.proofs.Sorted.{Sorted, sorted_in, other}
use Rattle.channel.proofs.Visits.{stores_passed, places_below, found_record, visits_each}
use Rattle.channel.proofs.Least.{Least, none, some, least_is, tally, tally-all, tally-none, tally-some, tally-one}
use Rattle.channel.proofs.Shared.{is_shared_lem}
use Rattle.channel.proofs.Restore.{cell_below, shared_restorable}
use Rattle.channel.proofs.Written.{written, form, length-written, written_next, written_low, written_high, written-exponent, written-store, written-numbers, written-shared, written_entry}

-- the same tests of the same numbers
pub all_same : (n : ℕ) (p q : ℕ → Bool) → ((k : ℕ) → k < n → p k ≡ q k) → all_below n p ≡ all_below n q
all_same zero p q h = refl
all_same (suc n) p q h = λ i. all_same n p q (λ k l. h k (omega arith)) i && h n (omega arith) i

pub alike_ok : (n : ℕ) (a b : Shared) → Alike n a b → shared_ok n a ≡ shared_ok n b
alike_ok n a b h =
    λ i. (leb (h.exp i) max_exponent && all_same n (λ (k : ℕ). within max_numerator (a.num k)) (λ (k : ℕ). within max_numerator (b.num k)) (λ k l. ap (within max_numerator) (h.num k l)) i)
    && (eqb (h.exp i) 0 || not (all_same n (λ (k : ℕ). number_halves.even (a.num k)) (λ (k : ℕ). number_halves.even (b.num k)) (λ k l. ap number_halves.even (h.num k l)) i))

-- the diagonal of a half is its own conjugate
real_of : (a : ℤ) → a ≡ neg_ℤ a → eqℤ a (pos 0) ≡ true
real_of (pos zero) e = refl
real_of (pos (suc n)) e = absurd (true≢false (ap non_neg e))
real_of (negsuc n) e = absurd (true≢false (sym (ap non_neg e)))

abbrev after : Bool → ℕ → ℕ → Bool
after first prev s = first || before prev s

-- what comes after a store that passes passes
onward : (first : Bool) (prev x y : ℕ) → after first prev x ≡ true → before x y ≡ true → after first prev y ≡ true
onward true prev x y e f = refl
onward false prev x y e f = before_trans prev x y e f

rising-of : (xs : List ℕ) → Sorted xs → rising xs ≡ true
rising-of [] s = refl
rising-of (x ∷ []) s = refl
rising-of (x ∷ y ∷ ys) s = λ i. s.1.0.0 i && rising-of (y ∷ ys) s.1.1 i

module _ (F : Form) (d m n : ℕ) (block : ℕ → Block) (wr : Writable F d m n block) (rest : List ℤ) where
  abbrev l : List ℤ
  l = written F d m n block rest

  abbrev st : ℕ → ℕ
  st j = (block j).store

  small : (j : ℕ) → j < n → st j < 2 ^ 64
  small j h = lt_of_lt_of_le (wr.small j h) (pow_mono wr.few)

  -- a record that was written is well formed
  module _ (i : ℕ) (h : i < n) where
    low_fits : up_to max_word (pos (st i % 2 ^ 32)) ≡ true
    low_fits = le-leb _ max_word (by (st i % 2 ^ 32) (mod-lt (st i) (pow_pos 32)))
      where
        by : (k : ℕ) → k < 2 ^ 32 → k ≤ max_word
        by k q = omega arith

    high_fits : up_to max_word (pos (st i / 2 ^ 32)) ≡ true
    high_fits = le-leb _ max_word (by (st i) (small i h))
      where
        by : (k : ℕ) → k < 2 ^ 64 → k / 2 ^ 32 ≤ max_word
        by k q = omega arith

    store-right : store_ok l (record_at F i) m ≡ true
    store-right =
        λ k. ((ap (up_to max_word) (written_low F d m n block rest i h) ∙ low_fits) k && (ap (up_to max_word) (written_high F d m n block rest i h) ∙ high_fits) k)
        && (ap (λ (s : ℕ). ltb s (2 ^ m)) (written-store F d m n block rest i h) ∙ lt-ltb (st i) (2 ^ m) (wr.small i h)) k

    diagonal-right : diagonal_ok F (numbers_at F l (record_at F i)) ≡ true
    diagonal-right = by F.half refl
      where
        at : ℕ → Number
        at r = numbers_at F l (record_at F i) (r * F.side + r)

        own : F.half ≡ true → (r : ℕ) → r < F.side → at r ≡ conjugate root2 (at r)
        own e r p =
            let u = written-numbers F d m n block rest i h (wr.suits i h) (r * F.side + r) (cell_below F r r p p) in
            u ∙ (shared_restorable F (block i).entry (wr.suits i h)).mirror e r r p p ∙ sym (ap (conjugate root2) u)

        by : (b : Bool) → F.half ≡ b → (not b || all_below F.side (λ (r : ℕ). is_real (at r))) ≡ true
        by true e = all-by F.side (λ (r : ℕ). is_real (at r)) (λ r p k. real_of (at r).im.re (ap (λ (z : Number). z.im.re) (own e r p)) k && real_of (at r).im.im (ap (λ (z : Number). z.im.im) (own e r p)) k)
        by false e = refl

    block-right : block_ok F l (record_at F i) ≡ true
    block-right =
        λ k. (ap (up_to max_exponent) (written-exponent F d m n block rest i h) ∙ (and_split (leb (form F d m n block rest i).exp max_exponent) _ (wr.fits i h)).0) k
        && ((alike_ok (entries F) _ _ (written-shared F d m n block rest i h (wr.suits i h)) ∙ (λ j. wr.fits i h j && is_shared_lem (entries F) (block i).entry (wr.lowest i h) j)) k && diagonal-right k)

    record_right : (first : Bool) (prev : ℕ) → after first prev (st i) ≡ true → record_ok F l m (record_at F i) first prev ≡ true
    record_right first prev e = λ k. store-right k && ((ap (after first prev) (written-store F d m n block rest i h) ∙ e) k && block-right k)

  -- the stores after the least that passes
  fewer : (i : ℕ) → i < n → (first : Bool) (prev : ℕ) → after first prev (st i) ≡ true → ((j : ℕ) → j < n → after first prev (st j) ≡ true → before (st j) (st i) ≡ false)
      → tally n (λ (j : ℕ). after first prev (st j)) ≡ suc (tally n (λ (j : ℕ). before (st i) (st j)))
  fewer i h first prev e f = tally-one n i (λ (j : ℕ). after first prev (st j)) (λ (j : ℕ). before (st i) (st j)) h e (before_irrefl (st i)) (λ j l u. same j l u (after first prev (st j)) refl)
    where
      same : (j : ℕ) → j < n → (j ≡ i → ⊥) → (b : Bool) → after first prev (st j) ≡ b → after first prev (st j) ≡ before (st i) (st j)
      same j l u true b = b ∙ sym (other (st j) (st i) (small j l) (small i h) (ne_eqb (st j) (st i) (λ q. u (wr.different j i l h q))) (f j l b))
      same j l u false b = b ∙ sym (by (before (st i) (st j)) refl)
        where
          by : (c : Bool) → before (st i) (st j) ≡ c → before (st i) (st j) ≡ false
          by true c = absurd (true≢false (sym (onward first prev (st i) (st j) e c) ∙ b))
          by false c = c

  chain-right : (k : ℕ) (first : Bool) (prev : ℕ) → tally n (λ (j : ℕ). after first prev (st j)) ≡ k → chain_ok F l m n k (pos (link F (least n st (after first prev)))) first prev ≡ true
  unfolding chain_ok
  chain-right zero first prev e = go (least_is n st (after first prev))
    where
      go : Least n st (after first prev) (least n st (after first prev)) → eqℤ (pos (link F (least n st (after first prev)))) (pos 0) ≡ true
      go (none z f) = ap (λ (r : ℕ). eqℤ (pos (link F r)) (pos 0)) z
      go (some i z h q f) = absurd (omega (arith, tally-some n i (λ (j : ℕ). after first prev (st j)) h q, e))
  chain-right (suc k) first prev e = go (least_is n st (after first prev)) (λ i q. chain-right k false (st i) q)
    where
      go : Least n st (after first prev) (least n st (after first prev)) → ((i : ℕ) → tally n (λ (j : ℕ). before (st i) (st j)) ≡ k → chain_ok F l m n k (pos (next F d m n block i)) false (st i) ≡ true)
          → chain_ok F l m n (suc k) (pos (link F (least n st (after first prev)))) first prev ≡ true
      go (none z f) ih = absurd (omega (arith, tally-none n (λ (j : ℕ). after first prev (st j)) f, e))
      go (some i z h q f) ih =
          let c : tally n (λ (j : ℕ). before (st i) (st j)) ≡ k = omega (arith, fewer i h first prev q f, e) in
          let t : chain_ok F l m n k (word l (record_at F i)) false (store_at l (record_at F i)) ≡ true =
          (λ j. chain_ok F l m n k (written_next F d m n block rest i h j) false (written-store F d m n block rest i h j)) ∙ ih i c in
          ap (λ (r : ℕ). chain_ok F l m n (suc k) (pos (link F r)) first prev) z ∙ (λ j. start_is F n i h j && (record_right i h first prev q j && t j))

  header-right : header_ok F l ≡ true
  header-right =
      λ i. le-leb header_size (length l) (by (n * record_size F) (length-written F d m n block rest)) i
      && ((wr.dim i && le-leb m 64 wr.few i) && le-leb n ((length l - header_size) / record_size F) (fits (record_size F) (omega arith) (length-written F d m n block rest)) i)
    where
      by : (k : ℕ) → length l ≡ header_size + k + length rest → header_size ≤ length l
      by k e = omega arith

      fits : (s : ℕ) → 0 < s → length l ≡ header_size + n * s + length rest → n ≤ (length l - header_size) / s
      fits s h e = (le-div_iff_mul-le h).1 (omega arith)

  right : well_formed_in F l ≡ true
  right = well_formed_lem F l true header-right (chain-right n true 0 (tally-all n))

  -- the stores of the places are those that were written
  store_same : (ps : List ℕ) → All (λ (p : ℕ). p < n) ps → map (λ (p : ℕ). store_at l (record_at F p)) ps ≡ map st ps
  store_same [] a = refl
  store_same (p ∷ ps) a = λ i. written-store F d m n block rest p a.0 i ∷ store_same ps a.1 i

  reads_back : ReadsBack F d m n block l
  reads_back = record {
    right = right;
    dim = refl;
    bits = refl;
    count = refl;
    order = stores_passed F l right ∙ store_same (places F l n (nat_abs (word l 3))) (places_below F l right);
    once = visits_each F l right;
    rises = rising-of (stores_of (read_back_in F l)) (sorted_in F l right);
    entries = λ j k h q.
        ap (λ (s : ℕ). look (read_back_in F l) s k) (sym (written-store F d m n block rest j h)) ∙ found_record F l right j k h
        ∙ written_entry F d m n block rest j h (wr.suits j h) (wr.lowest j h) k q;
  }

pub round_trip : RoundTrip
round_trip F d m n block wr rest = reads_back F d m n block wr rest
