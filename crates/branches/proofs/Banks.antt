-- Banks of branches in words: what is read back of a branch, a bank kept where other words are written, and a bank written by blocks.
use mathlib.Core.Path.{◌≡◌, sym, ap, ◌∙◌}
use mathlib.Core.List.{List, ◌++◌}
use Prim.Native.Nat.{ℕ, ◌+◌, ◌*◌, ◌/◌, ◌%◌, ◌≤◌, ◌<◌}
use native.Mathlib.Nat.{add_assoc, div-add-mod', div-lt_iff_lt-mul, mod-lt, zero-add, add-zero}
use native.Mathlib.Omega.{arith}
use lib.ListN.{length, get_or, take, drop, length-append, get_or-append}
use lib.Seq.{sets, get_or-append-add}
use lib.IntN.{ℤ, pos}
use borrow.Author.Tests.{le-leb}
use Rattle.algebra.specs.Sum.{δ}
use Rattle.algebra.specs.Words.{from_bits, blocks, up_to}
use Rattle.algebra.proofs.Lists.{concat_length, concat_at}
use Rattle.algebra.proofs.Blocks.{length-blocks, blocks_at, block_in_lem, append_block}
use Rattle.exact.specs.Exact.{Exact, exact, narrow_exponent}
use Rattle.exact.proofs.Sizes.{well_lowest}
use Rattle.rows.specs.Inner.Rows.{held_words, held_in, Factors}
use Rattle.rows.proofs.Held.{length_shared, words_same, held_is, held_factors}
use Rattle.store.specs.Store.{max_word}
use Rattle.kraus.specs.Dense.{table}
use Rattle.kraus.specs.Branch.{Store, Branch}
use Rattle.kraus.proofs.Dense.{tabulate-at}
use Rattle.kraus.proofs.Limits.{Kraus}
use Rattle.store.specs.Inner.Held.{Bits, StoreAt}
use Rattle.branches.specs.Inner.Store.{store_words}
use Rattle.branches.specs.Inner.Bank.{matrix_size, branch_size, branch_words, bank_words, identity_branch, Holds}
use Rattle.branches.proofs.Stores.{low_below, high_below}

-- ---- the words of a branch
module _ (d : ℕ) (b : Branch) where
  abbrev entries : ℕ → Exact
  entries i = get_or b.matrix i exact.𝟘

  pub length-branch : length (branch_words d b) ≡ branch_size d
  length-branch = length-append (held_words (d * d) entries) (store_words b.store) ∙ ap (λ (n : ℕ). n + 2) (length_shared (d * d) entries)

  branch-matrix : (k : ℕ) → k < matrix_size d → get_or (branch_words d b) k (pos 0) ≡ get_or (held_words (d * d) entries) k (pos 0)
  branch-matrix k h = get_or-append (held_words (d * d) entries) (store_words b.store) (pos 0) k (omega (arith, length_shared (d * d) entries))

  branch-store : (k : ℕ) → get_or (branch_words d b) (matrix_size d + k) (pos 0) ≡ get_or (store_words b.store) k (pos 0)
  branch-store k =
      ap (λ (n : ℕ). get_or (branch_words d b) (n + k) (pos 0)) (sym (length_shared (d * d) entries))
      ∙ get_or-append-add (held_words (d * d) entries) (store_words b.store) k (pos 0)

pub length-bank : (d : ℕ) (bs : List Branch) → length (bank_words d bs) ≡ length bs * branch_size d
length-bank d bs = concat_length (branch_words d) (branch_size d) (length-branch d) bs

-- ---- what a bank holds; z is what is read past its end
module _ {l : List ℤ} {at : ℕ} (d : ℕ) (bs : List Branch) (h : Holds l at (bank_words d bs)) where
  pub bank-room : at + length bs * branch_size d ≤ length l
  bank-room = omega (arith, h.room, length-bank d bs)

  module _ (z : Branch) (j : ℕ) (hj : j < length bs) where
    -- word k of branch j
    bank-word : (k : ℕ) → k < branch_size d → get_or l (at + j * branch_size d + k) (pos 0) ≡ get_or (branch_words d (get_or bs j z)) k (pos 0)
    bank-word k hk =
        ap (λ (w : ℕ). get_or l w (pos 0)) (add_assoc at (j * branch_size d) k)
        ∙ h.word (j * branch_size d + k) (omega (arith, length-bank d bs, block_in_lem hj (branch_size d)))
        ∙ concat_at (branch_words d) (branch_size d) (length-branch d) bs z (pos 0) j k hj hk

    -- its matrix, whose entries are from −1 to 1
    module _ {E : ℕ} (kraus : (i : ℕ) → i < d * d → Kraus E (get_or (get_or bs j z).matrix i exact.𝟘)) where
      words : (k : ℕ) → k < d * d * 4 + 1 → get_or l (at + j * branch_size d + k) (pos 0) ≡ get_or (held_words (d * d) (entries d (get_or bs j z))) k (pos 0)
      words k hk = bank-word k (omega arith) ∙ branch-matrix d (get_or bs j z) k hk

      -- its entries
      pub bank_held : (i : ℕ) → i < d * d → held_in l (at + j * branch_size d) (d * d) i ≡ get_or (get_or bs j z).matrix i exact.𝟘
      bank_held = held_is l (at + j * branch_size d) (d * d) (entries d (get_or bs j z)) words (λ i hi. well_lowest (entries d (get_or bs j z) i) (kraus i hi).well_formed_lem)

      pub bank_factors : E ≤ narrow_exponent → Factors l (at + j * branch_size d) (d * d)
      bank_factors small =
          held_factors l (at + j * branch_size d) (d * d) (entries d (get_or bs j z)) words
          (λ i hi. record { exponent = omega (arith, (kraus i hi).coords.exponent); size = (kraus i hi).coords.size })
          (omega (arith, bank-room, block_in_lem hj (branch_size d)))

    bank-store : (k : ℕ) → k < 2 → get_or l (at + j * branch_size d + matrix_size d + k) (pos 0) ≡ get_or (store_words (get_or bs j z).store) k (pos 0)
    bank-store k hk =
        ap (λ (w : ℕ). get_or l w (pos 0)) (add_assoc (at + j * branch_size d) (matrix_size d) k)
        ∙ bank-word (matrix_size d + k) (omega arith)
        ∙ branch-store d (get_or bs j z) k

    -- its store, in two words below 2^32 each
    pub bank-low : get_or l (at + j * branch_size d + matrix_size d) (pos 0) ≡ pos (from_bits (take 32 (get_or bs j z).store))
    bank-low = ap (λ (w : ℕ). get_or l w (pos 0)) (sym (add-zero (at + j * branch_size d + matrix_size d))) ∙ bank-store 0 (omega arith)

    pub bank_high : get_or l (at + j * branch_size d + matrix_size d + 1) (pos 0) ≡ pos (from_bits (drop 32 (get_or bs j z).store))
    bank_high = bank-store 1 (omega arith)

    pub store_at : Bits (get_or bs j z).store → length (get_or bs j z).store ≤ 64 → StoreAt l (at + j * branch_size d + matrix_size d)
    store_at b few = record {
      room = omega (arith, bank-room, block_in_lem hj (branch_size d));
      low = ap (up_to max_word) bank-low ∙ le-leb (from_bits (take 32 (get_or bs j z).store)) max_word (omega (arith, low_below (get_or bs j z).store b));
      high = ap (up_to max_word) bank_high ∙ le-leb (from_bits (drop 32 (get_or bs j z).store)) max_word (omega (arith, high_below (get_or bs j z).store b few));
    }

-- n blocks that are the words of n branches
pub held_blocks : (l : List ℤ) (at d : ℕ) (f : ℕ → List ℤ) (z : Branch) (bs : List Branch) {b : List ℤ} → b ≡ blocks (branch_size d) l at (length bs) f → ((i : ℕ) → length (f i) ≤ branch_size d)
    → at + length bs * branch_size d ≤ length l → ((j : ℕ) → j < length bs → f j ≡ branch_words d (get_or bs j z)) → Holds b at (bank_words d bs)
held_blocks l at d f z bs {b} is sized room e =
    record { room = omega (arith, ap length is, length-blocks s l at f (length bs), length-bank d bs); word = word }
  where
    s : ℕ
    s = branch_size d

    word : (k : ℕ) → k < length (bank_words d bs) → get_or b (at + k) (pos 0) ≡ get_or (bank_words d bs) k (pos 0)
    word k h =
        ap (λ (c : List ℤ). get_or c (at + k) (pos 0)) is
        ∙ ap (λ (w : ℕ). get_or (blocks s l at (length bs) f) w (pos 0)) place
        ∙ blocks_at s l at f sized (length bs) j (k % s) hj (omega (arith, hk, ap length (e j hj), length-branch d (get_or bs j z))) room
        ∙ ap (λ (ws : List ℤ). get_or ws (k % s) (pos 0)) (e j hj)
        ∙ sym (concat_at (branch_words d) s (length-branch d) bs z (pos 0) j (k % s) hj hk)
        ∙ ap (λ (w : ℕ). get_or (bank_words d bs) w (pos 0)) (div-add-mod' k s)
      where
        j : ℕ
        j = k / s

        hk : k % s < s
        hk = mod-lt k (omega arith)

        hj : j < length bs
        hj = (div-lt_iff_lt-mul {k = s} (omega arith)).1 (omega (arith, length-bank d bs))

        place : at + k ≡ at + j * s + k % s
        place = omega (arith, div-add-mod' k s)

-- ---- matrices given by their entries
pub table_words : (d : ℕ) (f : ℕ → ℕ → Exact) → held_words (d * d) (λ (i : ℕ). f (i / d) (i % d)) ≡ held_words (d * d) (λ (i : ℕ). get_or (table d f) i exact.𝟘)
table_words d f =
    words_same (d * d) (λ (i : ℕ). f (i / d) (i % d)) (λ (i : ℕ). get_or (table d f) i exact.𝟘)
    (λ i h. ap (λ (k : ℕ). f (k / d) (k % d)) (sym (zero-add i)) ∙ sym (tabulate-at (d * d) 0 (λ (k : ℕ). f (k / d) (k % d)) exact.𝟘 i h))

-- the identity, then its store
pub started : (l : List ℤ) (at d : ℕ) (σ : Store) {m b : List ℤ} → m ≡ sets l at (held_words (d * d) (λ (i : ℕ). δ exact (i / d) (i % d))) → b ≡ sets m (at + matrix_size d) (store_words σ) → b ≡ sets l at (branch_words d (identity_branch d σ))
started l at d σ p q =
    append_block l (held_words (d * d) unit) (store_words σ) at (matrix_size d) (length_shared (d * d) unit) p q
    ∙ ap (λ (ws : List ℤ). sets l at (ws ++ store_words σ)) (table_words d (δ exact))
  where
    unit : ℕ → Exact
    unit i = δ exact (i / d) (i % d)
