-- Words in a lent slice: blocks written at a stride, the invariant of the loop that writes them, what is read back, and what is kept.
use mathlib.Core.Path.{◌≡◌, refl, sym, ap, ◌∙◌, subst}
use mathlib.Core.List.{List, [], ◌∷◌, ◌++◌, append_assoc, append-nil}
use mathlib.Core.Logic.{inl, inr}
use Prim.Native.Nat.{ℕ, zero, suc, ◌+◌, ◌*◌, ◌-◌, ◌≤◌, ◌<◌, zero-le}
use native.Mathlib.Nat.{not-suc-le-zero, le_of_suc-le-suc, suc-mul, mul-le-mul, le_refl, add-zero, add-suc, mul-one, zero-mul}
use native.Mathlib.Numerals.{add-one}
use native.Mathlib.Decide.{dec_lt}
use native.Mathlib.Omega.{arith}
use lib.ListN.{length, get_or, set, take, drop, length-set, length-take, length-append, get_or-append}
use lib.Seq.{sets, sets-eq, take_at, drop_at, ext_get_or, get_or-append-add, length-sets, get_or-set_same, get_or-set_other}
use lib.IntN.{ℤ, pos}
use Rattle.algebra.specs.Words.{blocks, fill_words, joined}
use Rattle.algebra.specs.Inner.Apart.{Apart}

-- ---- a run of stores
module _ {A : Type 0} where
  pub sets_below : (vs l : List A) (i j : ℕ) (d : A) → j < i → get_or (sets l i vs) j d ≡ get_or l j d
  sets_below [] l i j d h = refl
  sets_below (a ∷ vs) l i j d h = sets_below vs (set l i a) (suc i) j d (omega arith) ∙ get_or-set_other l i j a d (λ e. omega arith)

  pub sets_above : (vs l : List A) (i j : ℕ) (d : A) → i + length vs ≤ j → get_or (sets l i vs) j d ≡ get_or l j d
  sets_above [] l i j d h = refl
  sets_above (a ∷ vs) l i j d h = sets_above vs (set l i a) (suc i) j d (omega arith) ∙ get_or-set_other l i j a d (λ e. omega arith)

  pub sets_at : (vs l : List A) (i k : ℕ) (d : A) → k < length vs → i + length vs ≤ length l → get_or (sets l i vs) (i + k) d ≡ get_or vs k d
  sets_at [] l i k d h b = absurd (not-suc-le-zero h)
  sets_at (a ∷ vs) l i zero d h b =
      sets_below vs (set l i a) (suc i) (i + 0) d (omega arith) ∙ ap (λ (j : ℕ). get_or (set l i a) j d) (add-zero i) ∙ get_or-set_same l i a d (omega arith)
  sets_at (a ∷ vs) l i (suc k) d h b =
      ap (λ (j : ℕ). get_or (sets (set l i a) (suc i) vs) j d) next
      ∙ sets_at vs (set l i a) (suc i) k d (le_of_suc-le-suc h) (omega (arith, length-set l i a))
    where
      next : i + suc k ≡ suc i + k
      next = omega arith

  pub sets_append : (xs ys l : List A) (i : ℕ) → sets l i (xs ++ ys) ≡ sets (sets l i xs) (i + length xs) ys
  sets_append [] ys l i = ap (λ (j : ℕ). sets l j ys) (sym (add-zero i))
  sets_append (a ∷ xs) ys l i = sets_append xs ys (set l i a) (suc i) ∙ ap (λ (j : ℕ). sets (sets (set l i a) (suc i) xs) j ys) next
    where
      next : suc i + length xs ≡ i + suc (length xs)
      next = omega arith

-- ---- two lists of one length with the same n words from `at` on
pub record Same (l m : List ℤ) (at n : ℕ) : Type 0 where
  pub long : length l ≡ length m
  pub word : (w : ℕ) → at ≤ w → w < at + n → get_or l w (pos 0) ≡ get_or m w (pos 0)

module _ {l m : List ℤ} {at n : ℕ} (h : Same l m at n) where
  pub part : (a k : ℕ) → at ≤ a → a + k ≤ at + n → Same l m a k
  part a k p q = record { long = h.long; word = λ w u v. h.word w (omega arith) (omega arith) }

  -- block i of s words
  pub cut : (s i : ℕ) → i * s + s ≤ n → Same l m (at + i * s) s
  cut s i p = part (at + i * s) s (omega arith) (omega arith)

-- ---- blocks
module _ (s : ℕ) (l : List ℤ) (at : ℕ) (f : ℕ → List ℤ) where
  pub length-blocks : (n : ℕ) → length (blocks s l at n f) ≡ length l
  unfolding blocks
  length-blocks zero = refl
  length-blocks (suc n) = length-sets (blocks s l at n f) (at + n * s) (f n) ∙ length-blocks n

  pub blocks_step : (n : ℕ) (b ws : List ℤ) → b ≡ blocks s l at n f → ws ≡ f n → sets b (at + n * s) ws ≡ blocks s l at (n + 1) f
  unfolding blocks
  blocks_step n b ws p q = (λ i. sets (p i) (at + n * s) (q i)) ∙ ap (λ (k : ℕ). blocks s l at k f) (sym (add-one n))

  blocks_below : (n j : ℕ) → j < at → get_or (blocks s l at n f) j (pos 0) ≡ get_or l j (pos 0)
  unfolding blocks
  blocks_below zero j h = refl
  blocks_below (suc n) j h = sets_below (f n) (blocks s l at n f) (at + n * s) j (pos 0) (omega arith) ∙ blocks_below n j h

  module _ (sized : (i : ℕ) → length (f i) ≤ s) where
    blocks_above : (n j : ℕ) → at + n * s ≤ j → get_or (blocks s l at n f) j (pos 0) ≡ get_or l j (pos 0)
    unfolding blocks
    blocks_above zero j h = refl
    blocks_above (suc n) j h =
        sets_above (f n) (blocks s l at n f) (at + n * s) j (pos 0) (omega (arith, suc-mul n s, sized n)) ∙ blocks_above n j (omega (arith, suc-mul n s))

    -- word k of block i
    pub blocks_at : (n i k : ℕ) → i < n → k < length (f i) → at + n * s ≤ length l → get_or (blocks s l at n f) (at + i * s + k) (pos 0) ≡ get_or (f i) k (pos 0)
    unfolding blocks
    blocks_at zero i k h m b = absurd (not-suc-le-zero h)
    blocks_at (suc n) i k h m b = go (dec_lt i n) (λ p. blocks_at n i k p m (omega (arith, suc-mul n s)))
      where
        go : Dec (i < n) → (i < n → get_or (blocks s l at n f) (at + i * s + k) (pos 0) ≡ get_or (f i) k (pos 0)) → get_or (sets (blocks s l at n f) (at + n * s) (f n)) (at + i * s + k) (pos 0) ≡ get_or (f i) k (pos 0)
        go (yes p) r =
            let q : suc i * s ≤ n * s = mul-le-mul p (le_refl s) in
            sets_below (f n) (blocks s l at n f) (at + n * s) (at + i * s + k) (pos 0) (omega (arith, suc-mul i s, sized i)) ∙ r p
        go (no p) r =
            let e : n ≡ i = omega arith in
            ap (λ (m : ℕ). get_or (sets (blocks s l at n f) (at + n * s) (f n)) (at + m * s + k) (pos 0)) (sym e)
            ∙ sets_at (f n) (blocks s l at n f) (at + n * s) k (pos 0) (subst (λ (j : ℕ). k < length (f j)) (sym e) m) (omega (arith, suc-mul n s, sized n, length-blocks n))
            ∙ ap (λ (m : ℕ). get_or (f m) k (pos 0)) e

-- ---- a loop that writes blocks: b is l with i of n blocks written
pub record Writing (s : ℕ) (l : List ℤ) (at n : ℕ) (f : ℕ → List ℤ) (b : List ℤ) (i : ℕ) : Type 0 where
  pub sized : (k : ℕ) → length (f k) ≤ s
  pub count : i ≤ n
  pub is : b ≡ blocks s l at i f

pub begin : {s : ℕ} {l : List ℤ} {at n : ℕ} {f : ℕ → List ℤ} → ((k : ℕ) → length (f k) ≤ s) → Writing s l at n f l 0
unfolding blocks
begin h = record { sized = h; count = zero-le; is = refl }

module _ {s : ℕ} {l : List ℤ} {at n : ℕ} {f : ℕ → List ℤ} {b : List ℤ} {i : ℕ} (w : Writing s l at n f b i) where
  -- one block more
  pub again : {c ws : List ℤ} → i < n → c ≡ sets b (at + i * s) ws → ws ≡ f i → Writing s l at n f c (i + 1)
  again {c} {ws} h e q = record { sized = w.sized; count = omega arith; is = e ∙ blocks_step s l at f i b ws w.is q }

  pub done : n ≤ i → b ≡ blocks s l at n f
  done h = let e : i ≡ n = omega (arith, w.count) in w.is ∙ ap (λ (k : ℕ). blocks s l at k f) e

  pub long : length b ≡ length l
  long = ap length w.is ∙ length-blocks s l at f i

  -- a part that does not overlap is kept; so is what comes after the blocks
  pub kept : (g m : ℕ) → Apart g m at (n * s) → Same b l g m
  kept g m a = record { long = long; word = λ j p q. ap (λ (c : List ℤ). get_or c j (pos 0)) w.is ∙ by a j p q }
    where
      by : Apart g m at (n * s) → (j : ℕ) → g ≤ j → j < g + m → get_or (blocks s l at i f) j (pos 0) ≡ get_or l j (pos 0)
      by (inl a) j p q = blocks_below s l at f i j (omega arith)
      by (inr a) j p q = blocks_above s l at f w.sized i j (omega (arith, mul-le-mul w.count (le_refl s)))

  pub rest : (g m : ℕ) → at + i * s ≤ g → Same b l g m
  rest g m h = record { long = long; word = λ j p q. ap (λ (c : List ℤ). get_or c j (pos 0)) w.is ∙ blocks_above s l at f w.sized i j (omega arith) }

-- what a function that wrote n blocks left
pub wrote : {s : ℕ} {l : List ℤ} {at n : ℕ} {f : ℕ → List ℤ} {b : List ℤ} → ((k : ℕ) → length (f k) ≤ s) → b ≡ blocks s l at n f → Writing s l at n f b n
wrote {n = n} h e = record { sized = h; count = le_refl n; is = e }

pub same_trans : {l m o : List ℤ} {at n : ℕ} → Same l m at n → Same m o at n → Same l o at n
same_trans p q = record { long = p.long ∙ q.long; word = λ w h k. p.word w h k ∙ q.word w h k }

-- a block that is written in two runs
pub append_block : (l ws vs : List ℤ) (at k : ℕ) {b c : List ℤ} → length ws ≡ k → b ≡ sets l at ws → c ≡ sets b (at + k) vs → c ≡ sets l at (ws ++ vs)
append_block l ws vs at k h p q = q ∙ (λ i. sets (p i) (at + sym h i) vs) ∙ sym (sets_append ws vs l at)

-- block i of n
pub block_in_lem : {i n : ℕ} → i < n → (s : ℕ) → i * s + s ≤ n * s
block_in_lem {i} {n} h s = omega (arith, suc-mul i s, mul-le-mul h (le_refl s))

-- parts of parts that do not overlap
pub narrow : (a m b n a' m' b' n' : ℕ) → Apart a m b n → a ≤ a' → a' + m' ≤ a + m → b ≤ b' → b' + n' ≤ b + n → Apart a' m' b' n'
narrow a m b n a' m' b' n' (inl h) p q r s = inl (omega arith)
narrow a m b n a' m' b' n' (inr h) p q r s = inr (omega arith)

-- ---- blocks of s words each, end to end
module _ (s : ℕ) (f : ℕ → List ℤ) (sized : (i : ℕ) → length (f i) ≡ s) where
  pub length-joined : (n : ℕ) → length (joined n f) ≡ n * s
  unfolding joined
  length-joined zero = sym (zero-mul s)
  length-joined (suc n) = length-append (joined n f) (f n) ∙ (λ i. length-joined n i + sized n i) ∙ sym (suc-mul n s)

  -- written one by one, or as one run
  pub blocks-joined : (l : List ℤ) (at n : ℕ) → blocks s l at n f ≡ sets l at (joined n f)
  unfolding blocks joined
  blocks-joined l at zero = refl
  blocks-joined l at (suc n) = (λ i. sets (blocks-joined l at n i) (at + sym (length-joined n) i) (f n)) ∙ sym (sets_append (joined n f) (f n) l at)

  -- word k of block i
  pub joined_at : (n i k : ℕ) → i < n → k < s → get_or (joined n f) (i * s + k) (pos 0) ≡ get_or (f i) k (pos 0)
  unfolding joined
  joined_at zero i k h p = absurd (not-suc-le-zero h)
  joined_at (suc n) i k h p = go (dec_lt i n) (λ q. joined_at n i k q p)
    where
      go : Dec (i < n) → (i < n → get_or (joined n f) (i * s + k) (pos 0) ≡ get_or (f i) k (pos 0)) → get_or (joined n f ++ f n) (i * s + k) (pos 0) ≡ get_or (f i) k (pos 0)
      go (yes q) r =
          get_or-append (joined n f) (f n) (pos 0) (i * s + k) (omega (arith, length-joined n, suc-mul i s, mul-le-mul q (le_refl s))) ∙ r q
      go (no q) r =
          let u : n ≡ i = omega arith in
          let e : i * s + k ≡ length (joined n f) + k = ap (λ (m : ℕ). m * s + k) (sym u) ∙ sym (ap (λ (m : ℕ). m + k) (length-joined n)) in
          ap (λ (w : ℕ). get_or (joined n f ++ f n) w (pos 0)) e ∙ get_or-append-add (joined n f) (f n) k (pos 0) ∙ ap (λ (m : ℕ). get_or (f m) k (pos 0)) u

  -- the whole list after n blocks are written, by its three parts
  pub blocks_parts : (l : List ℤ) (at n : ℕ) → at + n * s ≤ length l → blocks s l at n f ≡ take at l ++ joined n f ++ drop (at + n * s) l
  blocks_parts l at n h =
      blocks-joined l at n ∙ sets-eq (joined n f) l at (omega (arith, length-joined n)) ∙ ap (λ (k : ℕ). take at l ++ joined n f ++ drop (at + k) l) (length-joined n)

pub joined_same : (n : ℕ) (f h : ℕ → List ℤ) → ((i : ℕ) → i < n → f i ≡ h i) → joined n f ≡ joined n h
unfolding joined
joined_same zero f h e = refl
joined_same (suc n) f h e = λ i. joined_same n f h (λ j l. e j (omega arith)) i ++ e n (omega arith) i

-- ---- blocks written in another order, or twice
-- n more blocks after m
pub blocks_more : (s : ℕ) (l : List ℤ) (at m n : ℕ) (f : ℕ → List ℤ) → blocks s (blocks s l at m f) (at + m * s) n (λ (i : ℕ). f (m + i)) ≡ blocks s l at (m + n) f
unfolding blocks
blocks_more s l at m zero f = ap (λ (k : ℕ). blocks s l at k f) (sym (add-zero m))
blocks_more s l at m (suc n) f =
    (λ i. sets (blocks_more s l at m n f i) (place i) (f (m + n))) ∙ ap (λ (k : ℕ). blocks s l at k f) (sym (add-suc m n))
  where
    place : at + m * s + n * s ≡ at + (m + n) * s
    place = omega arith

pub blocks-same : (s : ℕ) (l : List ℤ) (at n : ℕ) (f h : ℕ → List ℤ) → ((i : ℕ) → i < n → f i ≡ h i) → blocks s l at n f ≡ blocks s l at n h
unfolding blocks
blocks-same s l at zero f h e = refl
blocks-same s l at (suc n) f h e = λ i. sets (blocks-same s l at n f h (λ j p. e j (omega arith)) i) (at + n * s) (e n (omega arith) i)

-- blocks written over blocks of the same size
pub blocks_over : (s : ℕ) (l : List ℤ) (at n : ℕ) (f h : ℕ → List ℤ) → ((i : ℕ) → length (f i) ≡ s) → ((i : ℕ) → length (h i) ≡ s) → at + n * s ≤ length l
    → blocks s (blocks s l at n f) at n h ≡ blocks s l at n h
blocks_over s l at n f h p q g =
    blocks_parts s h q (blocks s l at n f) at n (omega (arith, length-blocks s l at f n))
    ∙ (λ i. front i ++ joined n h ++ back i) ∙ sym (blocks_parts s h q l at n g)
  where
    size : length (take at l) ≡ at
    size = simp length-take (omega arith)

    front : take at (blocks s l at n f) ≡ take at l
    front = ap (take at) (blocks_parts s f p l at n g ∙ append_assoc (take at l) (joined n f) (drop (at + n * s) l)) ∙ take_at (take at l) (joined n f ++ drop (at + n * s) l) at size

    back : drop (at + n * s) (blocks s l at n f) ≡ drop (at + n * s) l
    back =
        ap (drop (at + n * s)) (blocks_parts s f p l at n g)
        ∙ drop_at (take at l ++ joined n f) (drop (at + n * s) l) (at + n * s) (length-append (take at l) (joined n f) ∙ (λ i. size i + length-joined s f p n i))

-- m rows of n blocks each
joined-more : (m n : ℕ) (f : ℕ → List ℤ) → joined (m + n) f ≡ joined m f ++ joined n (λ (i : ℕ). f (m + i))
unfolding joined
joined-more m zero f = ap (λ (k : ℕ). joined k f) (add-zero m) ∙ sym (append-nil (joined m f))
joined-more m (suc n) f =
    ap (λ (k : ℕ). joined k f) (add-suc m n) ∙ ap (λ (l : List ℤ). l ++ f (m + n)) (joined-more m n f) ∙ append_assoc (joined m f) (joined n (λ (i : ℕ). f (m + i))) (f (m + n))

pub joined-rows : (m n : ℕ) (f : ℕ → List ℤ) → joined m (λ (r : ℕ). joined n (λ (c : ℕ). f (r * n + c))) ≡ joined (m * n) f
unfolding joined
joined-rows zero n f = ap (λ (k : ℕ). joined k f) (sym (zero-mul n))
joined-rows (suc m) n f =
    ap (λ (l : List ℤ). l ++ joined n (λ (c : ℕ). f (m * n + c))) (joined-rows m n f) ∙ sym (joined-more (m * n) n f) ∙ ap (λ (k : ℕ). joined k f) (sym (suc-mul m n))

-- one word more
pub again_word : {l : List ℤ} {at n : ℕ} (f : ℕ → ℤ) {b : List ℤ} {i : ℕ} → Writing 1 l at n (λ (k : ℕ). f k ∷ []) b i → {x : ℤ} → i < n → x ≡ f i
    → Writing 1 l at n (λ (k : ℕ). f k ∷ []) (set b (at + i) x) (i + 1)
again_word {at = at} f {b} {i} w {x} h q = again w {ws = x ∷ []} h (ap (λ (k : ℕ). set b (at + k) x) (sym (mul-one i))) (ap (λ (z : ℤ). z ∷ []) q)

abbrev single : (ℕ → ℤ) → ℕ → List ℤ
single f k = f k ∷ []

-- writing over the first n words forgets what stood there
pub written_over : (l b : List ℤ) (n : ℕ) (f : ℕ → ℤ) → n ≤ length l → Same b l n (length l - n) → fill_words b 0 n f ≡ fill_words l 0 n f
written_over l b n f h e =
    ext_get_or (pos 0) (fill_words b 0 n f) (fill_words l 0 n f)
    (length-blocks 1 b 0 (single f) n ∙ e.long ∙ sym (length-blocks 1 l 0 (single f) n))
    (λ i p. by (dec_lt i n) (omega (arith, p, length-blocks 1 b 0 (single f) n, e.long)))
  where
    one : (c : List ℤ) (i : ℕ) → n ≤ length c → i < n → get_or (fill_words c 0 n f) i (pos 0) ≡ f i
    one c i q p = ap (λ (w : ℕ). get_or (fill_words c 0 n f) w (pos 0)) place ∙ blocks_at 1 c 0 (single f) (λ k. le_refl 1) n i 0 p (le_refl 1) (omega arith)
      where
        place : i ≡ 0 + i * 1 + 0
        place = omega arith

    by : {i : ℕ} → Dec (i < n) → i < length l → get_or (fill_words b 0 n f) i (pos 0) ≡ get_or (fill_words l 0 n f) i (pos 0)
    by {i} (yes p) q = one b i (omega (arith, e.long)) p ∙ sym (one l i h p)
    by {i} (no p) q =
        blocks_above 1 b 0 (single f) (λ k. le_refl 1) n i (omega arith) ∙ e.word i (omega arith) (omega arith) ∙ sym (blocks_above 1 l 0 (single f) (λ k. le_refl 1) n i (omega arith))
