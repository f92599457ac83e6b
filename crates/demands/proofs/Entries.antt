-- Channels entry by entry: what compare finds of two that were delivered, it finds of the blocks of the definitions.
use Rattle.std.specs.Prelude.{Option, Result, Ok}
use Rattle.std.specs.Result.{result_and}
use mathlib.Core.Path.{◌≡◌, refl, sym, ap, ◌∙◌, subst}
use mathlib.Core.Bool.{Bool, true, false, cond, ◌&&◌, ◌||◌, true≢false}
use mathlib.Core.List.{List, [], ◌∷◌, foldl}
use Prim.Native.Nat.{ℕ, ◌+◌, ◌*◌, ◌/◌, ◌%◌, ◌^◌, ◌<◌, ◌≤◌}
use native.Mathlib.Decide.{dec_lt}
use native.Mathlib.Omega.{arith}
use lib.Arith.{digits_lt}
use lib.Dec.{eqb}
use lib.Pow.{pow-lt}
use lib.IntN.{ℤ}
use borrow.Author.Tests.{eq-eqb, ne_eqb, eqb-true, eqb-false}
use Rattle.algebra.specs.Lists.{All, some, filter_by}
use Rattle.algebra.specs.Words.{from_bits}
use Rattle.algebra.proofs.Tests.{and_split, or_no}
use Rattle.algebra.proofs.Bits.{bits_below}
use Rattle.verdict.specs.declared.Refusal.{Refusal}
use Rattle.exact.specs.Exact.{Exact, exact}
use Rattle.scalar.specs.Calls.{scalar_of}
use Rattle.gate.proofs.Bits.{Word, same_true}
use Rattle.kraus.specs.Branch.{Store, Branch}
use Rattle.kraus.specs.Blocks.{having, overlap, stores, block}
use Rattle.store.specs.Store.{bits}
use Rattle.store.proofs.Bytes.{bits_back}
use Rattle.compare.specs.declared.Comparison.{Comparison}
use Rattle.compare.specs.declared.Comparison.TheVariants.{Same, Dimensions, Differs}
use Rattle.compare.specs.declared.Difference.{Difference}
use Rattle.channel.specs.Layout.{Block, side, dim_at, bits_at, read_back}
use Rattle.channel.specs.WellFormed.{verdict_by}
use Rattle.compare.specs.Compare.{found, first, merge, compare_of}
use Rattle.channel.specs.Claims.{look, Sound}
use Rattle.compare.specs.Claims.{entry_of, earlier, Comparable, FirstAt}
use Rattle.compare.proofs.Claims.{same_exactly, first_entry}
use Rattle.channel.proofs.Sorted.{sorted}
use Rattle.compare.proofs.Merged.{merge_sorted}
use Rattle.compare.proofs.First.{Compared, alike, differs, compared}
use Rattle.demands.specs.Demands.{IsChannel}
use Rattle.demands.proofs.Stores.{some-stores}

-- ---- one channel: n qubits, m bits, and f for its entries at each store, row and column
pub record Reads (n m : ℕ) (f : ℕ → ℕ → ℕ → Exact) (l : List ℤ) : Type 0 where
  pub sound : Sound l
  pub dim : dim_at l ≡ 2 ^ n
  pub bit_count : bits_at l ≡ m
  pub within : (s i j : ℕ) → s < 2 ^ m → i < side (2 ^ n) → j < side (2 ^ n) → entry_of l s (i * side (2 ^ n) + j) ≡ f s i j
  pub beyond : (s i j : ℕ) → 2 ^ m ≤ s → i < side (2 ^ n) → j < side (2 ^ n) → entry_of l s (i * side (2 ^ n) + j) ≡ exact.𝟘

-- a store of no branch has the zero block
no_block : (m s : ℕ) → s < 2 ^ m → (bs : List Branch) → some (λ (b : Branch). eqb (from_bits b.store) s) bs ≡ false → filter_by (having (bits m s)) bs ≡ []
no_block m s h [] e = refl
no_block m s h (b ∷ bs) e = let no = or_no (eqb (from_bits b.store) s) _ e in go (having (bits m s) b) refl no.0 (no_block m s h bs no.1)
  where
    go : (t : Bool) → having (bits m s) b ≡ t → eqb (from_bits b.store) s ≡ false → filter_by (having (bits m s)) bs ≡ [] → cond t (b ∷ filter_by (having (bits m s)) bs) (filter_by (having (bits m s)) bs) ≡ []
    go true f g r = absurd (eqb-false _ _ g (ap from_bits (sym (same_true (bits m s) b.store f)) ∙ bits_back m s h))
    go false f g r = r

-- a store of a branch is below 2^m
listed_below : (m s : ℕ) (ts : List Store) → All (Word m) ts → 2 ^ m ≤ s → some (λ (τ : Store). eqb (from_bits τ) s) ts ≡ false
listed_below m s [] h p = refl
listed_below m s (τ ∷ ts) h p = λ i. ne_eqb (from_bits τ) s apart i || listed_below m s ts h.1 p i
  where
    apart : from_bits τ ≡ s → ⊥
    apart e = let below : from_bits τ < 2 ^ m = subst (λ (k : ℕ). from_bits τ < 2 ^ k) h.0.0 (bits_below τ h.0.1) in absurd (omega arith)

module _ {n m : ℕ} {bs : List Branch} {l : List ℤ} (c : IsChannel n m bs l) (words : All (Word m) (stores bs)) where
  abbrev w : ℕ
  w = side (2 ^ n)

  abbrev has : ℕ → Bool
  has s = some (λ (b : Branch). eqb (from_bits b.store) s) bs

  abbrev at : ℕ → ℕ → ℕ → Exact
  at s i j = block bs (bits m s) i j

  look_is : (xs : List Block) → All (λ (a : Block). (i j : ℕ) → i < side (2 ^ n) → j < side (2 ^ n) → a.entry (i * side (2 ^ n) + j) ≡ block bs (bits m a.store) i j) xs
      → (s i j : ℕ) → i < w → j < w → look xs s (i * w + j) ≡ cond (some (λ (a : Block). eqb a.store s) xs) (at s i j) exact.𝟘
  look_is [] h s i j p q = refl
  look_is (x ∷ xs) h s i j p q = go (eqb x.store s) refl (look_is xs h.1 s i j p q)
    where
      there : Bool
      there = some (λ (a : Block). eqb a.store s) xs

      go : (t : Bool) → eqb x.store s ≡ t → look xs s (i * w + j) ≡ cond there (at s i j) exact.𝟘
          → cond (eqb s x.store) (x.entry (i * w + j)) (look xs s (i * w + j)) ≡ cond (t || there) (at s i j) exact.𝟘
      go true e r = let f = eqb-true x.store s e in
          ap (λ (t : Bool). cond t (x.entry (i * w + j)) (look xs s (i * w + j))) (eq-eqb s x.store (sym f)) ∙ h.0 i j p q ∙ ap (λ (k : ℕ). at k i j) f
      go false e r = ap (λ (t : Bool). cond t (x.entry (i * w + j)) (look xs s (i * w + j))) (ne_eqb s x.store (λ f. eqb-false x.store s e (sym f))) ∙ r

  entry_is : (s i j : ℕ) → i < w → j < w → entry_of l s (i * w + j) ≡ cond (has s) (at s i j) exact.𝟘
  entry_is s i j p q = look_is (read_back l) c.entries s i j p q ∙ ap (λ (t : Bool). cond t (at s i j) exact.𝟘) (c.listed s)

  pub reads : Reads n m (λ s i j. block bs (bits m s) i j) l
  reads = record {
    sound = record { right = c.formed; full = c.full };
    dim = c.dim;
    bit_count = c.bit_count;
    within = λ s i j h p q. entry_is s i j p q ∙ inside s i j h (has s) refl;
    beyond = λ s i j h p q. entry_is s i j p q ∙ ap (λ (t : Bool). cond t (at s i j) exact.𝟘) (sym (some-stores (λ (τ : Store). eqb (from_bits τ) s) bs) ∙ listed_below m s (stores bs) words h);
  }
    where
      inside : (s i j : ℕ) → s < 2 ^ m → (t : Bool) → has s ≡ t → cond (has s) (at s i j) exact.𝟘 ≡ at s i j
      inside s i j h true e = ap (λ (t : Bool). cond t (at s i j) exact.𝟘) e
      inside s i j h false e = ap (λ (t : Bool). cond t (at s i j) exact.𝟘) e ∙ sym (ap sum_of (no_block m s h bs e))
        where
          sum_of : List Branch → Exact
          sum_of xs = foldl (λ (x : Exact) (b : Branch). exact.◌⊕◌ x (overlap i j b)) exact.𝟘 xs

-- ---- two of them
-- the entries f and g first differ as d says, of n qubits and m bits
pub record FirstOf (n m : ℕ) (f g : ℕ → ℕ → ℕ → Exact) (d : Difference) : Type 0 where
  pub store : d.place.store < 2 ^ m
  pub row : d.place.row < side (2 ^ n)
  pub col : d.place.col < side (2 ^ n)
  pub left : d.left ≡ scalar_of (f d.place.store d.place.row d.place.col)
  pub right : d.right ≡ scalar_of (g d.place.store d.place.row d.place.col)
  pub unequal : f d.place.store d.place.row d.place.col ≡ g d.place.store d.place.row d.place.col → ⊥
  pub agree : (s i j : ℕ) → s < 2 ^ m → i < side (2 ^ n) → j < side (2 ^ n)
      → earlier s (i * side (2 ^ n) + j) d.place.store (d.place.row * side (2 ^ n) + d.place.col) ≡ true → f s i j ≡ g s i j

-- what compare finds
pub data Finds (n m n' m' : ℕ) (f g : ℕ → ℕ → ℕ → Exact) (c : Result Comparison Refusal) : Type 0 where
  same : n ≡ n' → m ≡ m' → c ≡ Ok Same → ((s i j : ℕ) → s < 2 ^ m → i < side (2 ^ n) → j < side (2 ^ n) → f s i j ≡ g s i j) → Finds n m n' m' f g c
  sizes : (n ≡ n' → m ≡ m' → ⊥) → c ≡ Ok Dimensions → Finds n m n' m' f g c
  entry : n ≡ n' → m ≡ m' → (d : Difference) → c ≡ Ok (Differs d) → FirstOf n m f g d → Finds n m n' m' f g c

-- of one count of qubits and one of bits
module _ {n m : ℕ} {f g : ℕ → ℕ → ℕ → Exact} {l r : List ℤ} (a : Reads n m f l) (b : Reads n m g r) where
  comparable : Comparable l r
  comparable = record { left = a.sound; right = b.sound; dims = a.dim ∙ sym b.dim; bits = a.bit_count ∙ sym b.bit_count }

  -- the first unequal entry, with k for the dimension
  record FirstWith (d : Difference) (k : ℕ) : Type 0 where
    row : d.place.row < side k
    col : d.place.col < side k
    left : d.left ≡ scalar_of (entry_of l d.place.store (d.place.row * side k + d.place.col))
    right : d.right ≡ scalar_of (entry_of r d.place.store (d.place.row * side k + d.place.col))
    unequal : entry_of l d.place.store (d.place.row * side k + d.place.col) ≡ entry_of r d.place.store (d.place.row * side k + d.place.col) → ⊥
    agree : (s q : ℕ) → q < side k * side k → earlier s q d.place.store (d.place.row * side k + d.place.col) ≡ true → entry_of l s q ≡ entry_of r s q

  first_with : (d : Difference) → FirstAt l r d → FirstWith d (2 ^ n)
  first_with d h = subst (FirstWith d) a.dim (record { row = h.row; col = h.col; left = h.left; right = h.right; unequal = h.unequal; agree = h.agree })

  first-of : (d : Difference) → FirstWith d (2 ^ n) → FirstOf n m f g d
  first-of d h = record {
    store = store;
    row = h.row;
    col = h.col;
    left = h.left ∙ ap scalar_of (a.within d.place.store d.place.row d.place.col store h.row h.col);
    right = h.right ∙ ap scalar_of (b.within d.place.store d.place.row d.place.col store h.row h.col);
    unequal = λ e. h.unequal (a.within d.place.store d.place.row d.place.col store h.row h.col ∙ e ∙ sym (b.within d.place.store d.place.row d.place.col store h.row h.col));
    agree = λ s i j u v w e. sym (a.within s i j u v w) ∙ h.agree s (i * side (2 ^ n) + j) (digits_lt v w) e ∙ b.within s i j u v w;
  }
    where
      store : d.place.store < 2 ^ m
      store = go (dec_lt d.place.store (2 ^ m))
        where
          go : Dec (d.place.store < 2 ^ m) → d.place.store < 2 ^ m
          go (yes s) = s
          go (no s) = let k : 2 ^ m ≤ d.place.store = omega arith in
              absurd (h.unequal (a.beyond d.place.store d.place.row d.place.col k h.row h.col ∙ sym (b.beyond d.place.store d.place.row d.place.col k h.row h.col)))

  in_step : compare_of l r ≡ Ok (found (first (side (dim_at l)) (merge (read_back l) (read_back r)))) → Finds n m n m f g (compare_of l r)
  in_step is = go (compared (side (dim_at l)) (merge (read_back l) (read_back r)) (merge_sorted (read_back l) (read_back r) (sorted l a.sound.right) (sorted r b.sound.right)))
    where
      equal-at : compare_of l r ≡ Ok Same → (s i j : ℕ) → s < 2 ^ m → i < side (2 ^ n) → j < side (2 ^ n) → f s i j ≡ g s i j
      equal-at e s i j u v w = sym (a.within s i j u v w) ∙ (same_exactly l r comparable).0 e s (i * side (2 ^ n) + j) below ∙ b.within s i j u v w
        where
          below : i * side (2 ^ n) + j < side (dim_at l) * side (dim_at l)
          below = subst (λ (k : ℕ). i * side (2 ^ n) + j < side k * side k) (sym a.dim) (digits_lt v w)

      seen : (d : Difference) → compare_of l r ≡ Ok (Differs d) → Finds n m n m f g (compare_of l r)
      seen d e = entry refl refl d e (first-of d (first_with d (first_entry l r comparable d e)))

      go : Compared (side (dim_at l)) (merge (read_back l) (read_back r)) (first (side (dim_at l)) (merge (read_back l) (read_back r))) → Finds n m n m f g (compare_of l r)
      go (alike e h) = let at = is ∙ ap (λ (x : Option Difference). Ok (found x)) e in same refl refl at (equal-at at)
      go (differs s q h k u e) = seen _ (is ∙ ap (λ (x : Option Difference). Ok (found x)) e)

one_power : (n k : ℕ) → 2 ^ n ≡ 2 ^ k → n ≡ k
one_power n k e = go (dec_lt n k) (dec_lt k n)
  where
    go : Dec (n < k) → Dec (k < n) → n ≡ k
    go (yes h) q = let less : 2 ^ n < 2 ^ k = pow-lt h in absurd (omega arith)
    go (no h) (yes q) = let less : 2 ^ k < 2 ^ n = pow-lt q in absurd (omega arith)
    go (no h) (no q) = omega arith

module _ {n m n' m' : ℕ} {f g : ℕ → ℕ → ℕ → Exact} {l r : List ℤ} (a : Reads n m f l) (b : Reads n' m' g r) where
  abbrev counts : Bool
  counts = eqb (dim_at l) (dim_at r) && eqb (bits_at l) (bits_at r)

  abbrev scanned : Comparison
  scanned = found (first (side (dim_at l)) (merge (read_back l) (read_back r)))

  compare_is : compare_of l r ≡ Ok (cond counts scanned Dimensions)
  compare_is = λ i. result_and (verdict_by (a.sound.right i) (a.sound.full i)) (result_and (verdict_by (b.sound.right i) (b.sound.full i)) (Ok (cond counts scanned Dimensions)))

  pub finds : Finds n m n' m' f g (compare_of l r)
  finds = go counts refl
    where
      as_one : n ≡ n' → m ≡ m' → compare_of l r ≡ Ok scanned → Finds n m n' m' f g (compare_of l r)
      as_one p q e = subst (λ (k : ℕ). Finds n m k m' f g (compare_of l r)) p (subst (λ (k : ℕ). Finds n m n k f g (compare_of l r)) q
          (in_step a (subst (λ (k : ℕ). Reads k m g r) (sym p) (subst (λ (k : ℕ). Reads n' k g r) (sym q) b)) e))

      go : (t : Bool) → counts ≡ t → Finds n m n' m' f g (compare_of l r)
      go true e =
          let both = and_split (eqb (dim_at l) (dim_at r)) (eqb (bits_at l) (bits_at r)) e in
          as_one (one_power n n' (sym a.dim ∙ eqb-true _ _ both.0 ∙ b.dim)) (sym a.bit_count ∙ eqb-true _ _ both.1 ∙ b.bit_count)
          (compare_is ∙ ap (λ (t : Bool). Ok (cond t scanned Dimensions)) e)
      go false e = sizes no (compare_is ∙ ap (λ (t : Bool). Ok (cond t scanned Dimensions)) e)
        where
          no : n ≡ n' → m ≡ m' → ⊥
          no p q = true≢false (sym (λ i. eq-eqb (dim_at l) (dim_at r) (a.dim ∙ ap (λ (k : ℕ). 2 ^ k) p ∙ sym b.dim) i && eq-eqb (bits_at l) (bits_at r) (a.bit_count ∙ q ∙ sym b.bit_count) i) ∙ e)
