-- What is gathered says of all words: in range, even, zero; and two rows are the same where nothing differs.
use mathlib.Core.Path.{◌≡◌, refl, sym, ap, ◌∙◌}
use mathlib.Core.Bool.{Bool, true, false, ◌&&◌}
use mathlib.Core.List.{List}
use Prim.Native.Nat.{ℕ, zero, suc, ◌+◌, ◌-◌, ◌%◌, ◌^◌, ◌≤◌, ◌<◌}
use native.Mathlib.Nat.{add-zero, zero-add, add-suc, add_assoc}
use native.Mathlib.Numerals.{add-one}
use native.Mathlib.Omega.{arith}
use lib.Bits.{bit_and, bit_or, bit_xor, or_add_and, or_lt, and_le_l, and_le_r}
use lib.Dec.{eqb, leb, ltb}
use lib.ListN.{get_or, length, take, drop, length-drop}
use Rattle.std.proofs.lemmas.List.{length-take-le, get_or-take, get_or-drop}
use lib.Pow.{pow_pos}
use lib.IntN.{ℤ, pos, negsuc, nat_abs}
use lib.Signed.{mag}
use mir.Syntax.{w64}
use mir.Val.{SFits, of_z}
use borrow.Author.Tests.{ltb-true, lt-ltb, le-leb}
use Rattle.algebra.specs.Dyadic.{evenℤ}
use Rattle.algebra.specs.Lists.{all_below}
use Rattle.algebra.specs.Words.{eqℤ}
use Rattle.algebra.proofs.Tests.{test_same, and_split, and_no, all-at, all-by}
use Rattle.algebra.proofs.Signed.{and_one, or_even, or_zero, eq_words}
use Rattle.exact.specs.Exact.{max_numerator}
use Rattle.gather.specs.Words.{each_word, all_in_range, all_even, all_zero, seen_of, same_at, same_words}
use Rattle.gather.specs.declared.Seen.{Seen}
use Rattle.gather.specs.Inner.Gathered.{gather, edge, edges}
use Rattle.gather.proofs.Edges.{edge_below, edge-parity, edge-zero, xor_zero}

-- one number more
pub all_more : (n : ℕ) (p : ℕ → Bool) {s t : Bool} → s ≡ all_below n p → t ≡ p n → (s && t) ≡ all_below (n + 1) p
all_more n p e f = (λ i. e i && f i) ∙ ap (λ (k : ℕ). all_below k p) (sym (add-one n))

-- tests that agree
all_same : (n : ℕ) (p q : ℕ → Bool) → ((i : ℕ) → i < n → p i ≡ q i) → all_below n p ≡ all_below n q
all_same zero p q h = refl
all_same (suc n) p q h = λ i. all_same n p q (λ j l. h j (omega arith)) i && h n (omega arith) i

-- one word more
pub more : {i a b : ℕ} (f : ℕ → ℕ) → a ≡ gather i f → b ≡ f i → bit_or a b ≡ gather (i + 1) f
more {i} f p q = (λ j. bit_or (p j) (q j)) ∙ ap (λ (k : ℕ). gather k f) (sym (add-one i))

-- a test that a | b passes exactly where both do
gather_test : (t : ℕ → Bool) → t 0 ≡ true → ((a b : ℕ) → t (bit_or a b) ≡ (t a && t b)) → (n : ℕ) (f : ℕ → ℕ) → t (gather n f) ≡ all_below n (λ (i : ℕ). t (f i))
gather_test t z o zero f = z
gather_test t z o (suc n) f = o (gather n f) (f n) ∙ ap (λ (b : Bool). b && t (f n)) (gather_test t z o n f)

or_below : (k a b : ℕ) → ltb (bit_or a b) (2 ^ k) ≡ (ltb a (2 ^ k) && ltb b (2 ^ k))
or_below k a b = test_same _ _ (λ e. to (ltb-true (bit_or a b) (2 ^ k) e)) (λ e. from (and_split (ltb a (2 ^ k)) (ltb b (2 ^ k)) e))
  where
    to : bit_or a b < 2 ^ k → (ltb a (2 ^ k) && ltb b (2 ^ k)) ≡ true
    to h = λ i. lt-ltb a (2 ^ k) (omega (arith, or_add_and a b, and_le_r a b)) i && lt-ltb b (2 ^ k) (omega (arith, or_add_and a b, and_le_l a b)) i

    from : (ltb a (2 ^ k) ≡ true) × (ltb b (2 ^ k) ≡ true) → ltb (bit_or a b) (2 ^ k) ≡ true
    from p = lt-ltb (bit_or a b) (2 ^ k) (or_lt k a b (ltb-true a (2 ^ k) p.0) (ltb-true b (2 ^ k) p.1))

-- ---- n words from `at` on
module _ (l : List ℤ) (at n : ℕ) where
  edges_test : (t : ℕ → Bool) → t 0 ≡ true → ((a b : ℕ) → t (bit_or a b) ≡ (t a && t b)) → (u : ℤ → Bool) → ((x : ℤ) → t (edge x) ≡ u x) → t (edges l at n) ≡ each_word u l at n
  edges_test t z o u e = gather_test t z o n (λ (i : ℕ). edge (get_or l (at + i) (pos 0))) ∙ all_same n _ _ (λ i b. e (get_or l (at + i) (pos 0)))

  edges_below : (k : ℕ) → ltb (edges l at n) (2 ^ (k + 1)) ≡ each_word (λ (x : ℤ). ltb (mag x) (2 ^ k)) l at n
  edges_below k = edges_test (λ (a : ℕ). ltb a (2 ^ (k + 1))) (lt-ltb 0 (2 ^ (k + 1)) (pow_pos (k + 1))) (or_below (k + 1)) (λ (x : ℤ). ltb (mag x) (2 ^ k)) (edge_below k)

  pub edges-within : edges l at n < 2 ^ 62 → all_in_range l at n ≡ true
  edges-within h = all-by n _ (λ i b. mag_in_range (get_or l (at + i) (pos 0)) (ltb-true _ (2 ^ 61) (all-at n _ (sym (edges_below 61) ∙ lt-ltb (edges l at n) (2 ^ 62) h) i b)))
    where
      mag_in_range : (x : ℤ) → mag x < 2 ^ 61 → leb (nat_abs x) max_numerator ≡ true
      mag_in_range (pos a) h = le-leb a max_numerator (omega arith)
      mag_in_range (negsuc a) h = le-leb (suc a) max_numerator (omega arith)

  pub edges-even : eqb (edges l at n % 2) 0 ≡ all_even l at n
  edges-even = edges_test (λ (a : ℕ). eqb (a % 2) 0) refl or_even (λ (x : ℤ). eqb (nat_abs x % 2) 0) (λ x. ap (λ (m : ℕ). eqb m 0) (edge-parity x))

  pub edges-zero : eqb (edges l at n) 0 ≡ all_zero l at n
  edges-zero = edges_test (λ (a : ℕ). eqb a 0) refl or_zero (λ (x : ℤ). eqℤ x (pos 0)) edge-zero

-- x ^ y
pub xor_words : (x y : ℤ) → SFits w64 x → SFits w64 y → eqb (bit_xor (of_z w64 x) (of_z w64 y)) 0 ≡ eqℤ x y
xor_words x y f g = xor_zero (of_z w64 x) (of_z w64 y) ∙ eq_words x y f g

-- ---- rows of words
all_split : (m n : ℕ) (p : ℕ → Bool) → all_below (m + n) p ≡ (all_below m p && all_below n (λ (i : ℕ). p (m + i)))
all_split m zero p = ap (λ (k : ℕ). all_below k p) (add-zero m) ∙ sym (and-true (all_below m p))
  where
    and-true : (a : Bool) → (a && true) ≡ a
    and-true true = refl
    and-true false = refl
all_split m (suc n) p = ap (λ (k : ℕ). all_below k p) (add-suc m n) ∙ ap (λ (b : Bool). b && p (m + n)) (all_split m n p) ∙ assoc (all_below m p) (all_below n (λ (i : ℕ). p (m + i))) (p (m + n))
  where
    assoc : (a b c : Bool) → ((a && b) && c) ≡ (a && (b && c))
    assoc true b c = refl
    assoc false b c = refl

-- what is seen of words, and of those after them
module _ (l : List ℤ) (at k n : ℕ) where
  each-split : (p : ℤ → Bool) → each_word p l at (k + n) ≡ (each_word p l at k && each_word p l (at + k) n)
  each-split p =
      all_split k n (λ (i : ℕ). p (get_or l (at + i) (pos 0)))
      ∙ ap (λ (t : Bool). each_word p l at k && t) (all_same n _ _ (λ i h j. p (get_or l (sym (add_assoc at k i) j) (pos 0))))

  pub seen-more : {a b : Seen} → a ≡ seen_of l at k → b ≡ seen_of l (at + k) n → ◌≡◌ {A = Seen} (record { range = a.range && b.range; even = a.even && b.even; zero = a.zero && b.zero }) (seen_of l at (k + n))
  seen-more e f = λ i. record {
    range = ((λ j. (e j).range && (f j).range) ∙ sym (each-split (λ (x : ℤ). leb (nat_abs x) max_numerator))) i;
    even = ((λ j. (e j).even && (f j).even) ∙ sym (each-split evenℤ)) i;
    zero = ((λ j. (e j).zero && (f j).zero) ∙ sym (each-split (λ (x : ℤ). eqℤ x (pos 0)))) i;
  }

module _ (l : List ℤ) (a : ℕ) (m : List ℤ) (b k w : ℕ) where
  row-split : same_words l a m b (k + w) ≡ (same_words l a m b k && same_words l (a + k) m (b + k) w)
  row-split =
      all_split k w (same_at l a m b)
      ∙ ap (λ (t : Bool). same_words l a m b k && t) (all_same w _ _ (λ i h j. eqℤ (get_or l (sym (add_assoc a k i) j) (pos 0)) (get_or m (sym (add_assoc b k i) j) (pos 0))))

  -- a row after words that are the same
  pub row_is : (t : Bool) → same_words l a m b k ≡ true → same_words l (a + k) m (b + k) w ≡ t → same_words l a m b (k + w) ≡ t
  row_is t e f = row-split ∙ (λ i. e i && f i)

  -- one that differs decides
  pub row_no : (n : ℕ) → k + w ≤ n → same_words l (a + k) m (b + k) w ≡ false → same_words l a m b n ≡ false
  row_no n h e =
      let s : n ≡ k + w + (n - (k + w)) = omega arith in
      ap (same_words l a m b) s ∙ all_split (k + w) (n - (k + w)) (same_at l a m b)
      ∙ ap (λ (t : Bool). t && all_below (n - (k + w)) (λ (i : ℕ). same_at l a m b (k + w + i))) (row-split ∙ and_no (same_words l a m b k) _ e)

-- ---- what is seen, by the word g that was gathered
module _ (l : List ℤ) (at n : ℕ) (g : ℕ) (e : g ≡ edges l at n) where
  pub seen_is : (b : Bool) → b ≡ all_in_range l at n → ◌≡◌ {A = Seen} (record { range = b; even = eqb (bit_and g 1) 0; zero = eqb g 0 }) (seen_of l at n)
  seen_is b f = λ i. record {
    range = f i;
    even = (ap (λ (k : ℕ). eqb k 0) (and_one g) ∙ ap (λ (k : ℕ). eqb (k % 2) 0) e ∙ edges-even l at n) i;
    zero = (ap (λ (k : ℕ). eqb k 0) e ∙ edges-zero l at n) i;
  }

-- ---- n words of l from `at` on, cut out
module _ (l : List ℤ) (at n k : ℕ) (e : k ≡ n) (h : at + n ≤ length l) where
  cut-long : length (take k (drop at l)) ≡ n
  cut-long = length-take-le k (drop at l) (rw length-drop (omega arith)) ∙ e

  cut-word : (i : ℕ) → i < n → get_or (take k (drop at l)) (0 + i) (pos 0) ≡ get_or l (at + i) (pos 0)
  cut-word i q = ap (λ (j : ℕ). get_or (take k (drop at l)) j (pos 0)) (zero-add i) ∙ get_or-take k (drop at l) i (pos 0) (omega arith) ∙ get_or-drop at l i (pos 0)

  each-cut : (p : ℤ → Bool) → each_word p (take k (drop at l)) 0 n ≡ each_word p l at n
  each-cut p = all_same n _ _ (λ i q. ap p (cut-word i q))

  pub seen-cut : seen_of (take k (drop at l)) 0 (length (take k (drop at l))) ≡ seen_of l at n
  seen-cut =
      ap (seen_of (take k (drop at l)) 0) cut-long
      ∙ (λ i. record { range = each-cut (λ (x : ℤ). leb (nat_abs x) max_numerator) i; even = each-cut evenℤ i; zero = each-cut (λ (x : ℤ). eqℤ x (pos 0)) i })

-- n words of each of two
pub same-cut : (l : List ℤ) (a : ℕ) (m : List ℤ) (b n j k : ℕ) → j ≡ n → k ≡ n → a + n ≤ length l → b + n ≤ length m
    → same_words (take j (drop a l)) 0 (take k (drop b m)) 0 (length (take j (drop a l))) ≡ same_words l a m b n
same-cut l a m b n j k e f g h =
    ap (same_words (take j (drop a l)) 0 (take k (drop b m)) 0) (cut-long l a n j e g)
    ∙ all_same n _ _ (λ i q. λ t. eqℤ (cut-word l a n j e g i q t) (cut-word m b n k f h i q t))
