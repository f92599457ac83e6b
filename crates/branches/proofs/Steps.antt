-- One turn of a step's loop: the branch is as it was, its product may be taken, and one branch more is written.
use mathlib.Core.Path.{◌≡◌, sym, ap, ◌∙◌, subst₂, transport⁻¹, fun_ext}
use mathlib.Core.Logic.{inl, inr}
use mathlib.Core.List.{List, ◌++◌}
use Prim.Native.Nat.{ℕ, zero, suc, ◌+◌, ◌*◌, ◌/◌, ◌%◌, ◌^◌, ◌≤◌, ◌<◌}
use native.Mathlib.Nat.{le_of_eq}
use native.Mathlib.Omega.{arith}
use lib.Bits.{and_mask}
use lib.ListN.{length, length-append, get_or}
use lib.Seq.{sets, length-sets}
use lib.IntN.{ℤ, pos, nat_abs}
use Rattle.algebra.specs.Words.{up_to}
use Rattle.algebra.specs.Inner.Apart.{Apart}
use Rattle.algebra.proofs.Blocks.{Writing, begin, again, kept, sets_below, sets_above, Same, same_trans, part, cut, narrow, block_in_lem, append_block}
use Rattle.exact.specs.Exact.{Number, Exact, narrow_exponent}
use Rattle.exact.specs.Inner.Sizes.{Within}
use Rattle.gate.specs.Inner.Rows.{Form, entry_in}
use Rattle.share.proofs.Numbers.{number_same}
use Rattle.rows.specs.Inner.Rows.{held_words, Factors}
use Rattle.rows.proofs.Held.{length_shared}
use Rattle.store.specs.Store.{max_word}
use Rattle.store.specs.Inner.Held.{StoreAt}
use Rattle.branches.specs.Inner.Store.{outcome_pair, outcome_words}
use Rattle.branches.specs.Inner.Bank.{matrix_size, branch_size}
use Rattle.branches.specs.Inner.Step.{row_sum, Turning, Applying, operator_number, product_words, step_words, StepInPlace, Step}
use Rattle.branches.proofs.Numerators.{sums_same}

pub factor_pos : (j n k : ℕ) → j < n * k → 0 < k
factor_pos j n zero h = absurd (omega arith)
factor_pos j n (suc k) h = omega arith

pub length-product : (l : List ℤ) (m : ℕ) (E : ℕ → Exact) (old d bit v : ℕ) → length (product_words l m E old d bit v) ≡ branch_size d
length-product l m E old d bit v =
    length-append (held_words (d * d) entry) (outcome_words l (old + matrix_size d) bit v) ∙ ap (λ (k : ℕ). k + 2) (length_shared (d * d) entry)
  where
    entry : ℕ → Exact
    entry i = row_sum l m E old d (i / d) (i % d)

-- ---- what holds of the same words
factors_same : {l m : List ℤ} {at n : ℕ} → Same l m at (n * 4 + 1) → Factors m at n → Factors l at n
factors_same {l} {m} {at} {n} h t = record {
  room = omega (arith, h.long, t.room);
  exponent = ap (up_to narrow_exponent) last ∙ t.exponent;
  sizes = λ i p. let q = block_in_lem p 4 in subst₂ (λ (e : ℕ) (x : Number). Within (2 ^ e) x) (sym (ap nat_abs last)) (sym (number_same (cut h 4 i (omega arith)))) (t.sizes i p);
}
  where
    last : get_or l (at + n * 4) (pos 0) ≡ get_or m (at + n * 4) (pos 0)
    last = h.word (at + n * 4) (omega arith) (omega arith)

-- a part that lies apart from the words that are written
pub apart_kept : {l m : List ℤ} {at : ℕ} (ws : List ℤ) → m ≡ sets l at ws → (a n : ℕ) → Apart a n at (length ws) → Same m l a n
apart_kept {l} {m} {at} ws e a n p = record { long = ap length e ∙ length-sets l at ws; word = λ w h k. ap (λ (c : List ℤ). get_or c w (pos 0)) e ∙ by p w h k }
  where
    by : Apart a n at (length ws) → (w : ℕ) → a ≤ w → w < a + n → get_or (sets l at ws) w (pos 0) ≡ get_or l w (pos 0)
    by (inl p) w h k = sets_below ws l at w (pos 0) (omega arith)
    by (inr p) w h k = sets_above ws l at w (pos 0) (omega arith)

-- ---- the number of each product's operator
-- a mask of no bits leaves 0, and a mask of one the last bit
pub none_is : (shift : ℕ) → operator_number shift 0 ≡ (λ (j : ℕ). j % 1)
none_is shift = fun_ext (λ j. and_mask (j / 2 ^ shift) 0 ∙ omega arith)

pub bit_is : (shift : ℕ) → operator_number shift 1 ≡ (λ (j : ℕ). j / 2 ^ shift % 2)
bit_is shift = fun_ext (λ j. and_mask (j / 2 ^ shift) 1)

-- ---- a branch that is as it was may be turned
pub still_turning : {l : List ℤ} {f : ℕ} {R : ℕ → Form} {mask at d count : ℕ} → StepInPlace l f R mask at d count → {i v : ℕ} → i < count → v ≤ mask
    → {b : List ℤ} → Same b l (at + i * branch_size d) (matrix_size d) → Turning b f (R v) (at + i * branch_size d) d
still_turning p {i} {v} h hv matrix = record { dim = p.dim; below = p.below; sized = p.sized v hv; factors = factors_same matrix (p.factors i h) }

-- ---- a step that splits branches
module _ {l : List ℤ} {f : ℕ} {R : ℕ → Form} {from to d count : ℕ} (p : Step l f R from to d count) where
  abbrev products : ℕ → ℕ → List ℤ
  products = step_words l f (λ (v : ℕ). entry_in (R v)) (λ (j : ℕ). j % 2) 2 from d

  pub none_stepped : (bit : ℕ) → Writing (branch_size d) l to (count * 2) (products bit) l 0
  none_stepped bit = begin (λ j. le_of_eq (length-product l f (entry_in (R (j % 2))) (from + j / 2 * branch_size d) d bit (j % 2)))

  -- turn j, where code counts s words for a matrix
  module _ {j : ℕ} (h : j < count * 2) {s : ℕ} (es : s ≡ matrix_size d) where
    abbrev old : ℕ
    old = from + j / 2 * branch_size d

    abbrev new : ℕ
    new = to + j * branch_size d

    abbrev size : ℕ
    size = branch_size d

    old_lt : j / 2 < count
    old_lt = omega arith

    old_in : j / 2 * branch_size d + branch_size d ≤ count * branch_size d
    old_in = block_in_lem old_lt size

    new_in : j * branch_size d + branch_size d ≤ count * 2 * branch_size d
    new_in = block_in_lem h size

    -- both branches end within the words
    pub old_end : from + j / 2 * (s + 2) + (s + 2) ≤ length l
    old_end = transport⁻¹ (λ i. from + j / 2 * (es i + 2) + (es i + 2) ≤ length l) (omega (arith, old_in, p.branches.room))

    pub new_end : to + j * (s + 2) + (s + 2) ≤ length l
    new_end = transport⁻¹ (λ i. to + j * (es i + 2) + (es i + 2) ≤ length l) (omega (arith, new_in, p.to_room))

    module _ (bit : ℕ) {b : List ℤ} (w : Writing (branch_size d) l to (count * 2) (products bit) b j) where
      branch : Same b l old size
      branch = part (kept w from (count * size) p.from_apart) old size (omega arith) (omega (arith, old_in))

      matrix : Same b l old (matrix_size d)
      matrix = part branch old (matrix_size d) (omega arith) (omega arith)

      -- the branch lies apart from the place of its product
      old_apart : Apart old size new size
      old_apart = narrow from (count * size) to (count * 2 * size) old size new size p.from_apart (omega arith) (omega (arith, old_in)) (omega arith) (omega (arith, new_in))

      pub turn_applying : Applying b f (R (j % 2)) (from + j / 2 * (s + 2)) (to + j * (s + 2)) d
      turn_applying = transport⁻¹ (λ i. Applying b f (R (j % 2)) (from + j / 2 * (es i + 2)) (to + j * (es i + 2)) d) (record {
        turning = still_turning p.branches old_lt (omega arith) matrix;
        new_room = omega (arith, branch.long, new_in, p.to_room);
        apart = narrow old size new size old (matrix_size d) new (matrix_size d) old_apart (omega arith) (omega arith) (omega arith) (omega arith);
      })

      -- after the product
      module _ {m : List ℤ} (em : m ≡ sets b (to + j * (s + 2)) (held_words (d * d) (λ (k : ℕ). row_sum b f (entry_in (R (j % 2))) (from + j / 2 * (s + 2)) d (k / d) (k % d)))) where
        abbrev entry : ℕ → Exact
        entry k = row_sum b f (entry_in (R (j % 2))) old d (k / d) (k % d)

        product : m ≡ sets b new (held_words (d * d) entry)
        product = em ∙ (λ i. sets b (to + j * (es i + 2)) (held_words (d * d) (λ (k : ℕ). row_sum b f (entry_in (R (j % 2))) (from + j / 2 * (es i + 2)) d (k / d) (k % d))))

        store : Same m l (old + matrix_size d) 2
        store =
            same_trans
            (apart_kept (held_words (d * d) entry) product (old + matrix_size d) 2
            (narrow old size new size (old + matrix_size d) 2 new (length (held_words (d * d) entry)) old_apart (omega arith) (omega arith) (omega arith) (omega (arith, length_shared (d * d) entry))))
            (part branch (old + matrix_size d) 2 (omega arith) (omega arith))

        low : get_or m (old + matrix_size d) (pos 0) ≡ get_or l (old + matrix_size d) (pos 0)
        low = store.word (old + matrix_size d) (omega arith) (omega arith)

        high : get_or m (old + matrix_size d + 1) (pos 0) ≡ get_or l (old + matrix_size d + 1) (pos 0)
        high = store.word (old + matrix_size d + 1) (omega arith) (omega arith)

        pub turn-store : StoreAt m (from + j / 2 * (s + 2) + s)
        turn-store =
            let t = p.stores (j / 2) old_lt in
            transport⁻¹ (λ i. StoreAt m (from + j / 2 * (es i + 2) + es i)) (record { room = omega (arith, store.long, t.room); low = ap (up_to max_word) low ∙ t.low; high = ap (up_to max_word) high ∙ t.high })

        pub turn-room : to + j * (s + 2) + s + 2 ≤ length m
        turn-room = transport⁻¹ (λ i. to + j * (es i + 2) + es i + 2 ≤ length m) (omega (arith, store.long, new_in, p.to_room))

        pub turn_more : {q : List ℤ} → q ≡ sets m (to + j * (s + 2) + s) (outcome_words m (from + j / 2 * (s + 2) + s) bit (j % 2))
            → Writing (branch_size d) l to (count * 2) (products bit) q (j + 1)
        turn_more g =
            again w h
            (append_block b (held_words (d * d) entry) (outcome_words m (old + matrix_size d) bit (j % 2)) new (matrix_size d) (length_shared (d * d) entry) product
            (g ∙ (λ i. sets m (to + j * (es i + 2) + es i) (outcome_words m (from + j / 2 * (es i + 2) + es i) bit (j % 2)))))
            (λ i. sums_same d matrix f (entry_in (R (j % 2))) p.branches.below i ++ outcome_pair bit (j % 2) (low i) (high i))
