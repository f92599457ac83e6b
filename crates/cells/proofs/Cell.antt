-- Cells: the same words are the same cell, what was filled is read back, and many cells as one run of words.
use mathlib.Core.Path.{◌≡◌, refl, sym, ap, ◌∙◌}
use mathlib.Core.Bool.{Bool, true, false, ◌&&◌}
use mathlib.Core.List.{List}
use Prim.Native.Nat.{ℕ, ◌+◌, ◌*◌, ◌≤◌, ◌<◌}
use native.Mathlib.Nat.{le_refl, add-zero, add_assoc}
use native.Mathlib.Omega.{arith}
use lib.Dec.{leb}
use lib.ListN.{length, get_or}
use lib.Seq.{sets}
use lib.IntN.{ℤ, pos, nat_abs}
use Rattle.algebra.specs.Dyadic.{frac}
use Rattle.algebra.specs.Words.{up_to, blocks}
use Rattle.algebra.proofs.Tests.{and_no}
use Rattle.algebra.proofs.Blocks.{Same, blocks_at, length-joined, blocks-joined, joined_at, joined_same}
use Rattle.exact.specs.Exact.{Exact, number, max_exponent, is_lowest, within, max_numerator, well_formed}
use Rattle.cells.specs.Cells.{cell_words, cell_at, exponent_at, well_formed_at, fill, cells, cell_size}

-- ---- the same five words
module _ {l m : List ℤ} {at : ℕ} (h : Same l m at cell_size) where
  pub cell_same : cell_at l at ≡ cell_at m at
  cell_same =
      λ i. frac
      (number (h.word at (omega arith) (omega arith) i) (h.word (at + 1) (omega arith) (omega arith) i) (h.word (at + 2) (omega arith) (omega arith) i) (h.word (at + 3) (omega arith) (omega arith) i))
      (nat_abs (h.word (at + 4) (omega arith) (omega arith) i))

  pub exponent_same : exponent_at l at ≡ exponent_at m at
  exponent_same = ap (up_to max_exponent) (h.word (at + 4) (omega arith) (omega arith))

-- ---- five words that are those of a number
module _ (l : List ℤ) (at : ℕ) (x : Exact) (h : (k : ℕ) → k < cell_size → get_or l (at + k) (pos 0) ≡ get_or (cell_words x) k (pos 0)) where
  pub cell_is : cell_at l at ≡ x
  cell_is =
      let z = ap (λ (w : ℕ). get_or l w (pos 0)) (sym (add-zero at)) ∙ h 0 (omega arith) in
      λ i. frac (number (z i) (h 1 (omega arith) i) (h 2 (omega arith) i) (h 3 (omega arith) i)) (nat_abs (h 4 (omega arith) i))

  pub exponent_is : exponent_at l at ≡ leb x.exp max_exponent
  exponent_is = ap (up_to max_exponent) (h 4 (omega arith))

  -- they are well formed exactly where it is
  pub well_formed_is : well_formed_at l at ≡ well_formed x
  well_formed_is = (λ i. exponent_is i && well_formed (cell_is i)) ∙ twice (leb x.exp max_exponent) refl
    where
      twice : (b : Bool) → leb x.exp max_exponent ≡ b → (b && well_formed x) ≡ well_formed x
      twice true e = refl
      twice false e = sym (ap (λ (t : Bool). t && is_lowest x) (and_no (within max_numerator x.num) (leb x.exp max_exponent) e))

-- ---- many numbers
module _ (f : ℕ → Exact) where
  abbrev words : ℕ → List ℤ
  words i = cell_words (f i)

  five : (i : ℕ) → length (words i) ≡ cell_size
  five i = refl

  pub length-cells : (n : ℕ) → length (cells n f) ≡ n * cell_size
  length-cells = length-joined cell_size words five

  -- word k of number i
  pub cells_at : (n i k : ℕ) → i < n → k < cell_size → get_or (cells n f) (i * cell_size + k) (pos 0) ≡ get_or (cell_words (f i)) k (pos 0)
  cells_at = joined_at cell_size words five

  module _ (l : List ℤ) (at : ℕ) where
    -- as one run
    pub fill-block : (n : ℕ) → fill l at n f ≡ sets l at (cells n f)
    fill-block = blocks-joined cell_size words five l at

    -- number i is read back
    module _ (n i : ℕ) (h : i < n) (room : at + n * cell_size ≤ length l) where
      filled : (k : ℕ) → k < cell_size → get_or (fill l at n f) (at + i * cell_size + k) (pos 0) ≡ get_or (cell_words (f i)) k (pos 0)
      filled k p = blocks_at cell_size l at words (λ i. le_refl cell_size) n i k h p room

      pub cell-filled : cell_at (fill l at n f) (at + i * cell_size) ≡ f i
      cell-filled = cell_is (fill l at n f) (at + i * cell_size) (f i) filled

pub cells_same : (n : ℕ) (f h : ℕ → Exact) → ((i : ℕ) → i < n → f i ≡ h i) → cells n f ≡ cells n h
cells_same n f h e = joined_same n (λ (i : ℕ). cell_words (f i)) (λ (i : ℕ). cell_words (h i)) (λ i p. ap cell_words (e i p))

-- number i of block b, where the block is m numbers
module _ (s : ℕ) (l : List ℤ) (at : ℕ) (f : ℕ → List ℤ) (sized : (i : ℕ) → length (f i) ≤ s) (n b m i : ℕ) (h : ℕ → Exact)
    (is : f b ≡ cells m h) (hb : b < n) (hi : i < m) (room : at + n * s ≤ length l) where
  pub block-word : (k : ℕ) → k < cell_size → get_or (blocks s l at n f) (at + b * s + i * cell_size + k) (pos 0) ≡ get_or (cell_words (h i)) k (pos 0)
  block-word k p =
      ap (λ (w : ℕ). get_or (blocks s l at n f) w (pos 0)) (add_assoc (at + b * s) (i * cell_size) k)
      ∙ blocks_at s l at f sized n b (i * cell_size + k) hb (omega (arith, ap length is, length-cells h m)) room
      ∙ ap (λ (c : List ℤ). get_or c (i * cell_size + k) (pos 0)) is
      ∙ cells_at h m i k hi p

  pub block-cell : cell_at (blocks s l at n f) (at + b * s + i * cell_size) ≡ h i
  block-cell = cell_is (blocks s l at n f) (at + b * s + i * cell_size) (h i) block-word
