-- A bank as it is read, and the branches that it holds: which survive, their stores in order, and the blocks of those.
use mathlib.Core.Path.{◌≡◌, refl, sym, ap, ap₂, ◌∙◌, subst}
use mathlib.Core.Bool.{Bool, true, false, cond, not, ◌&&◌, ◌||◌}
use mathlib.Core.List.{List, [], ◌∷◌, ◌++◌, map, foldl, append-nil}
use Prim.Native.Nat.{ℕ, zero, suc, ◌+◌, ◌*◌, ◌/◌, ◌%◌, ◌^◌, ◌≤◌, ◌<◌}
use native.Mathlib.Nat.{zero-add}
use native.Mathlib.Omega.{arith}
use lib.Dec.{eqb}
use lib.ListN.{length, get_or, length-map, length-append}
use lib.IntN.{ℤ}
use borrow.Author.Tests.{eqb-true, eq-eqb}
use Rattle.algebra.specs.Words.{from_bits}
use Rattle.algebra.specs.Lists.{All, all_below, every, some, filter_by}
use Rattle.algebra.proofs.Tests.{test_same, eqb_same, all-at, all-by}
use Rattle.algebra.proofs.Lists.{every-all, all_append, all_get_d, some_append}
use Rattle.algebra.proofs.Squares.{row_lt, column_lt}
use Rattle.exact.specs.Exact.{Exact, exact, conj, is_zero}
use Rattle.gate.specs.Operators.{same_bits}
use Rattle.gate.proofs.Bits.{same_true, same_refl, same_sym}
use Rattle.kraus.specs.Dense.{tabulate}
use Rattle.kraus.specs.Branch.{Store, Branch}
use Rattle.kraus.specs.Blocks.{alive, survivors, having, overlap, block, stores}
use Rattle.kraus.proofs.Dense.{tabulate-length, tabulate-at}
use Rattle.kraus.proofs.Stores.{other}
use Rattle.store.specs.Store.{bits}
use Rattle.store.proofs.Bytes.{bits_back}
use Rattle.channel.specs.Layout.{side, channel_words}
use Rattle.channel.proofs.RoundTrip.{all_same}
use Rattle.channel.proofs.Pass.{zero-lowest}
use Rattle.share.specs.Share.{number_in}
use Rattle.rows.specs.Inner.Rows.{exponent_in}
use Rattle.collect.specs.Inner.Bank.{place, store_of, entry, survives, has, is_first, starts, overlaps, stores_of, block_of, bank_in}
use Rattle.collect.specs.Delivered.{block_no, branches_words}
use Rattle.collect.proofs.Whole.{channel_same}

-- ---- stores as numbers
same_bits_lem : (m x y : ℕ) → x < 2 ^ m → y < 2 ^ m → same_bits (bits m x) (bits m y) ≡ eqb x y
same_bits_lem m x y h k = test_same (same_bits (bits m x) (bits m y)) (eqb x y)
    (λ e. eq-eqb x y (sym (bits_back m x h) ∙ ap from_bits (same_true (bits m x) (bits m y) e) ∙ bits_back m y k))
    (λ e. subst (λ (z : ℕ). same_bits (bits m x) (bits m z) ≡ true) (eqb-true x y e) (same_refl (bits m x)))

-- ---- one element more
module _ {A : Type 0} where
  pub filter_append : (p : A → Bool) (xs ys : List A) → filter_by p (xs ++ ys) ≡ filter_by p xs ++ filter_by p ys
  filter_append p [] ys = refl
  filter_append p (x ∷ xs) ys = go (p x) (filter_append p xs ys)
    where
      go : (b : Bool) → filter_by p (xs ++ ys) ≡ filter_by p xs ++ filter_by p ys → cond b (x ∷ filter_by p (xs ++ ys)) (filter_by p (xs ++ ys)) ≡ cond b (x ∷ filter_by p xs) (filter_by p xs) ++ filter_by p ys
      go true e = ap (λ (zs : List A). x ∷ zs) e
      go false e = e

  filter_more : (p : A → Bool) (xs : List A) (x : A) (b : Bool) → p x ≡ b → filter_by p (xs ++ (x ∷ [])) ≡ cond b (filter_by p xs ++ (x ∷ [])) (filter_by p xs)
  filter_more p xs x true e = filter_append p xs (x ∷ []) ∙ ap (λ (b : Bool). filter_by p xs ++ cond b (x ∷ []) []) e
  filter_more p xs x false e = filter_append p xs (x ∷ []) ∙ ap (λ (b : Bool). filter_by p xs ++ cond b (x ∷ []) []) e ∙ append-nil (filter_by p xs)

  fold_more : {B : Type 0} (f : B → A → B) (z : B) (xs : List A) (x : A) → foldl f z (xs ++ (x ∷ [])) ≡ f (foldl f z xs) x
  fold_more f z [] x = refl
  fold_more f z (y ∷ xs) x = fold_more f (f z y) xs x

  map_more : {B : Type 0} (f : A → B) (xs : List A) (x : A) → map f (xs ++ (x ∷ [])) ≡ map f xs ++ (f x ∷ [])
  map_more f [] x = refl
  map_more f (y ∷ xs) x = ap (λ (zs : List _). f y ∷ zs) (map_more f xs x)

-- the stores with one branch more
stores-more : (bs : List Branch) (b : Branch) → stores (bs ++ (b ∷ [])) ≡ cond (some (having b.store) bs) (stores bs) (stores bs ++ (b.store ∷ []))
stores-more [] b = refl
stores-more (c ∷ bs) b =
    ap (λ (ss : List Store). c.store ∷ filter_by (other c.store) ss) (stores-more bs b)
    ∙ go (some (having b.store) bs) (same_bits b.store c.store) refl
  where
    rest : List Store
    rest = filter_by (other c.store) (stores bs)

    go : (s t : Bool) → same_bits b.store c.store ≡ t
        → c.store ∷ filter_by (other c.store) (cond s (stores bs) (stores bs ++ (b.store ∷ []))) ≡ cond (t || s) (c.store ∷ rest) (c.store ∷ rest ++ (b.store ∷ []))
    go true true e = refl
    go true false e = refl
    go false true e =
        ap (λ (ss : List Store). c.store ∷ ss) (filter_more (other c.store) (stores bs) b.store false (ap not (ap (λ (τ : Store). same_bits c.store τ) (same_true b.store c.store e) ∙ same_refl c.store)))
    go false false e = ap (λ (ss : List Store). c.store ∷ ss) (filter_more (other c.store) (stores bs) b.store true (ap not (same_sym b.store c.store e)))

-- ---- a test along a table
every-tabulate : {A : Type 0} (z : A) (p : A → Bool) (n : ℕ) (f : ℕ → A) → every p (tabulate n 0 f) ≡ all_below n (λ (k : ℕ). p (f k))
every-tabulate {A} z p n f = test_same (every p (tabulate n 0 f)) (all_below n (λ (k : ℕ). p (f k)))
    (λ e. all-by n (λ (k : ℕ). p (f k)) (λ k h. sym (ap p (tabulate-at n 0 f z k h ∙ ap f (zero-add k)))
    ∙ all_get_d (λ (x : A). p x ≡ true) (tabulate n 0 f) (every-all p (λ (x : A). p x ≡ true) (λ x t. t) (tabulate n 0 f) e) k (omega (arith, h, tabulate-length n 0 f)) z))
    (λ e. of n 0 (λ k h l. all-at n (λ (k : ℕ). p (f k)) e k (omega arith)))
  where
    of : (n i : ℕ) → ((k : ℕ) → i ≤ k → k < i + n → p (f k) ≡ true) → every p (tabulate n i f) ≡ true
    of zero i h = refl
    of (suc n) i h = ap₂ ◌&&◌ (h i (omega arith) (omega arith)) (of n (suc i) (λ k u v. h k (omega arith) (omega arith)))

-- ---- the bank at `at` of l
module _ (l : List ℤ) (at d m : ℕ) where
  -- branch j, as it is read
  abbrev pub branch_in : ℕ → Branch
  branch_in j = record { matrix = tabulate (d * d) 0 (entry l at d j); store = bits m (store_of l at d j) }

  alive_is : (j : ℕ) → alive (branch_in j) ≡ survives l at d j
  alive_is j =
      ap not (every-tabulate exact.𝟘 (λ (x : Exact). is_zero x.num) (d * d) (entry l at d j)
      ∙ all_same (d * d) _ _ (λ i h. zero-lowest (number_in l (place at d j + i * 4)) (exponent_in l (place at d j) (d * d))))

  entry_is : (j i : ℕ) → i < d * d → get_or (branch_in j).matrix i exact.𝟘 ≡ entry l at d j i
  entry_is j i h = tabulate-at (d * d) 0 (entry l at d j) exact.𝟘 i h ∙ ap (entry l at d j) (zero-add i)

  survivors-more : (n : ℕ) (b : Bool) → survives l at d n ≡ b → survivors (bank_in l at d m (suc n)) ≡ cond b (survivors (bank_in l at d m n) ++ (branch_in n ∷ [])) (survivors (bank_in l at d m n))
  unfolding bank_in
  survivors-more n b e = filter_more alive (bank_in l at d m n) (branch_in n) b (alive_is n ∙ e)

  module _ (N : ℕ) (narrow : (j : ℕ) → j < N → store_of l at d j < 2 ^ m) where
    having_is : (s j : ℕ) → s < 2 ^ m → j < N → having (bits m s) (branch_in j) ≡ eqb (store_of l at d j) s
    having_is s j h k = same_bits_lem m s (store_of l at d j) h (narrow j k) ∙ eqb_same s (store_of l at d j) (store_of l at d j) s sym sym

    -- ---- blocks
    add : ℕ → ℕ → Exact → Branch → Exact
    add r c x b = exact.◌⊕◌ x (overlap r c b)

    pub block_is : (n s r c : ℕ) → n ≤ N → s < 2 ^ m → r < d * d → c < d * d → block (survivors (bank_in l at d m n)) (bits m s) r c ≡ overlaps l at d n s r c
    unfolding bank_in overlaps add
    block_is zero s r c h k p q = refl
    block_is (suc n) s r c h k p q = go (survives l at d n) refl (eqb (store_of l at d n) s) refl (block_is n s r c (omega arith) k p q)
      where
        τ : Store
        τ = bits m s

        old : List Branch
        old = survivors (bank_in l at d m n)

        sum : Exact
        sum = overlaps l at d n s r c

        go : (a : Bool) → survives l at d n ≡ a → (b : Bool) → eqb (store_of l at d n) s ≡ b → block old τ r c ≡ sum
            → block (survivors (bank_in l at d m (suc n))) τ r c ≡ cond (eqb (store_of l at d n) s && survives l at d n) (exact.◌⊕◌ sum (exact.◌⊗◌ (entry l at d n r) (conj (entry l at d n c)))) sum
        go a e b f ih = ap (λ (bs : List Branch). block bs τ r c) (survivors-more n a e) ∙ by a b (having_is s n k (omega arith) ∙ f)
            ∙ sym (λ i. cond (f i && e i) (exact.◌⊕◌ sum (exact.◌⊗◌ (entry l at d n r) (conj (entry l at d n c)))) sum)
          where
            by : (a b : Bool) → having τ (branch_in n) ≡ b → block (cond a (old ++ (branch_in n ∷ [])) old) τ r c ≡ cond (b && a) (exact.◌⊕◌ sum (exact.◌⊗◌ (entry l at d n r) (conj (entry l at d n c)))) sum
            by true true g = ap (foldl (add r c) exact.𝟘) (filter_more (having τ) old (branch_in n) true g) ∙ fold_more (add r c) exact.𝟘 (filter_by (having τ) old) (branch_in n)
                ∙ (λ i. exact.◌⊕◌ (ih i) (exact.◌⊗◌ (entry_is n r p i) (conj (entry_is n c q i))))
            by true false g = ap (foldl (add r c) exact.𝟘) (filter_more (having τ) old (branch_in n) false g) ∙ ih
            by false true g = ih
            by false false g = ih

    -- ---- stores
    some_is : (n s : ℕ) → n ≤ N → s < 2 ^ m → some (having (bits m s)) (survivors (bank_in l at d m n)) ≡ not (all_below n (λ (j : ℕ). not (has l at d s j)))
    unfolding bank_in
    some_is zero s h k = refl
    some_is (suc n) s h k = go (survives l at d n) refl (eqb (store_of l at d n) s) refl (some_is n s (omega arith) k)
      where
        old : List Branch
        old = survivors (bank_in l at d m n)

        past : Bool
        past = all_below n (λ (j : ℕ). not (has l at d s j))

        go : (a : Bool) → survives l at d n ≡ a → (b : Bool) → eqb (store_of l at d n) s ≡ b → some (having (bits m s)) old ≡ not past
            → some (having (bits m s)) (survivors (bank_in l at d m (suc n))) ≡ not (past && not (eqb (store_of l at d n) s && survives l at d n))
        go a e b f ih = ap (some (having (bits m s))) (survivors-more n a e) ∙ by a b (having_is s n k (omega arith) ∙ f) ∙ sym (λ i. not (past && not (f i && e i)))
          where
            last : (a b : Bool) → not a || (b || false) ≡ not (a && not b)
            last true true = refl
            last true false = refl
            last false b = refl

            none : (a : Bool) → not a ≡ not (a && true)
            none true = refl
            none false = refl

            by : (a b : Bool) → having (bits m s) (branch_in n) ≡ b → some (having (bits m s)) (cond a (old ++ (branch_in n ∷ [])) old) ≡ not (past && not (b && a))
            by true true g = some_append (having (bits m s)) old (branch_in n ∷ []) ∙ (λ i. ih i || (g i || false)) ∙ last past true
            by true false g = some_append (having (bits m s)) old (branch_in n ∷ []) ∙ (λ i. ih i || (g i || false)) ∙ last past false
            by false true g = ih ∙ none past
            by false false g = ih ∙ none past

    stores_is : (n : ℕ) → n ≤ N → stores (survivors (bank_in l at d m n)) ≡ map (bits m) (stores_of l at d n)
    unfolding bank_in stores_of
    stores_is zero h = refl
    stores_is (suc n) h = go (survives l at d n) refl (is_first l at d n) refl (stores_is n (omega arith))
      where
        old : List Branch
        old = survivors (bank_in l at d m n)

        ss : List ℕ
        ss = stores_of l at d n

        go : (a : Bool) → survives l at d n ≡ a → (b : Bool) → is_first l at d n ≡ b → stores old ≡ map (bits m) ss
            → stores (survivors (bank_in l at d m (suc n))) ≡ map (bits m) (cond (survives l at d n && is_first l at d n) (ss ++ (store_of l at d n ∷ [])) ss)
        go a e b f ih = ap stores (survivors-more n a e) ∙ by a b (some_is n (store_of l at d n) (omega arith) (narrow n (omega arith)) ∙ ap not f) ∙ sym (λ i. map (bits m) (cond (e i && f i) (ss ++ (store_of l at d n ∷ [])) ss))
          where
            by : (a b : Bool) → some (having (bits m (store_of l at d n))) old ≡ not b → stores (cond a (old ++ (branch_in n ∷ [])) old) ≡ map (bits m) (cond (a && b) (ss ++ (store_of l at d n ∷ [])) ss)
            by true true g = stores-more old (branch_in n) ∙ ap (λ (t : Bool). cond t (stores old) (stores old ++ ((branch_in n).store ∷ []))) g
                ∙ ap (λ (τs : List Store). τs ++ ((branch_in n).store ∷ [])) ih ∙ sym (map_more (bits m) ss (store_of l at d n))
            by true false g = stores-more old (branch_in n) ∙ ap (λ (t : Bool). cond t (stores old) (stores old ++ ((branch_in n).store ∷ []))) g ∙ ih
            by false b g = ih

  -- what holds of each branch's store
  pub stores_each : (P : ℕ → Type 0) (n : ℕ) → ((j : ℕ) → j < n → P (store_of l at d j)) → All P (stores_of l at d n)
  unfolding stores_of
  stores_each P zero h = tt
  stores_each P (suc n) h = go (starts l at d n) (stores_each P n (λ j k. h j (omega arith)))
    where
      go : (t : Bool) → All P (stores_of l at d n) → All P (cond t (stores_of l at d n ++ (store_of l at d n ∷ [])) (stores_of l at d n))
      go true a = all_append P (stores_of l at d n) (store_of l at d n ∷ []) a (h n (omega arith), tt)
      go false a = a

  pub stores-few : (n : ℕ) → length (stores_of l at d n) ≤ n
  unfolding stores_of
  stores-few zero = omega arith
  stores-few (suc n) = go (starts l at d n) (stores-few n)
    where
      go : (t : Bool) → length (stores_of l at d n) ≤ n → length (cond t (stores_of l at d n ++ (store_of l at d n ∷ [])) (stores_of l at d n)) ≤ suc n
      go true h = omega (arith, length-append (stores_of l at d n) (store_of l at d n ∷ []))
      go false h = omega arith

get_d_map : {A B : Type 0} (f : A → B) (xs : List A) (z : A) (y : B) (j : ℕ) → j < length xs → get_or (map f xs) j y ≡ f (get_or xs j z)
get_d_map f [] z y j h = absurd (omega arith)
get_d_map f (x ∷ xs) z y zero h = refl
get_d_map f (x ∷ xs) z y (suc j) h = get_d_map f xs z y j (omega arith)

-- how many stores there are, counted from either
pub store-count : (l : List ℤ) (at d m n : ℕ) → ((j : ℕ) → j < n → store_of l at d j < 2 ^ m) → length (stores_of l at d n) ≡ length (stores (survivors (bank_in l at d m n)))
store-count l at d m n narrow = sym (ap length (stores_is l at d m n narrow n (omega arith)) ∙ length-map (stores_of l at d n) (bits m))

-- the channel of a bank of n branches, as its words are read or by its branches
pub channel_is : (l : List ℤ) (at d m n : ℕ) → ((j : ℕ) → j < n → store_of l at d j < 2 ^ m)
    → channel_words d m (length (stores_of l at d n)) (λ (j : ℕ). block_of l at d n (get_or (stores_of l at d n) j 0)) ≡ branches_words d m (survivors (bank_in l at d m n))
channel_is l at d m n narrow =
    channel_same d m (length ss) _ (block_no d bs) (λ j h. sym (ap from_bits (store_is j h) ∙ bits_back m (get_or ss j 0) (low j h))) (λ j k h q. sym (ap (λ (τ : Store). block bs τ (k / side d) (k % side d)) (store_is j h)
    ∙ block_is l at d m n narrow n (get_or ss j 0) (k / side d) (k % side d) (omega arith) (low j h) (row_lt k (side d) q) (column_lt k (side d) q)))
    ∙ ap (λ (k : ℕ). channel_words d m k (block_no d bs)) (store-count l at d m n narrow)
  where
    ss : List ℕ
    ss = stores_of l at d n

    bs : List Branch
    bs = survivors (bank_in l at d m n)

    stores_are : stores bs ≡ map (bits m) ss
    stores_are = stores_is l at d m n narrow n (omega arith)

    store_is : (j : ℕ) → j < length ss → get_or (stores bs) j [] ≡ bits m (get_or ss j 0)
    store_is j h = ap (λ (τs : List Store). get_or τs j []) stores_are ∙ get_d_map (bits m) ss 0 [] j h

    low : (j : ℕ) → j < length ss → get_or ss j 0 < 2 ^ m
    low j h = all_get_d (λ (s : ℕ). s < 2 ^ m) ss (stores_each l at d m (λ (s : ℕ). s < 2 ^ m) n narrow) j h 0
