-- One turn of the loop of a step in place: the branch is as it was, its product takes its place, and one branch more is done.
use mathlib.Core.Path.{◌≡◌, sym, ap, ◌∙◌, transport⁻¹}
use mathlib.Core.Logic.{inr}
use mathlib.Core.List.{List, ◌++◌}
use Prim.Native.Nat.{ℕ, zero, suc, ◌+◌, ◌*◌, ◌/◌, ◌%◌, ◌^◌, ◌<◌}
use native.Mathlib.Nat.{le_of_eq, le_refl, div-one, add-zero}
use native.Mathlib.Omega.{arith}
use lib.Bits.{and_le_r}
use lib.ListN.{get_or}
use lib.Seq.{sets}
use lib.IntN.{ℤ, pos}
use Rattle.algebra.proofs.Blocks.{Writing, begin, again, rest, Same, same_trans, part, append_block}
use Rattle.exact.specs.Exact.{Exact}
use Rattle.gate.specs.Inner.Rows.{Form, entry_in}
use Rattle.share.proofs.Numbers.{sets_there}
use Rattle.rows.specs.Inner.Rows.{held_words}
use Rattle.rows.proofs.Held.{length_shared}
use Rattle.branches.specs.Inner.Store.{no_bit, outcome_words}
use Rattle.branches.specs.Inner.Bank.{matrix_size, branch_size}
use Rattle.branches.specs.Inner.Step.{row_sum, Turning, operator_number, product_words, step_words, StepInPlace}
use Rattle.branches.proofs.Numerators.{sums_same}
use Rattle.branches.proofs.Steps.{length-product, apart_kept, still_turning}

module _ {l : List ℤ} {f : ℕ} {R : ℕ → Form} {mask at d count : ℕ} (p : StepInPlace l f R mask at d count) (shift : ℕ) where
  abbrev number : ℕ → ℕ
  number = operator_number shift mask

  abbrev products : ℕ → List ℤ
  products = step_words l f (λ (v : ℕ). entry_in (R v)) number 1 at d no_bit

  pub none_turned : Writing (branch_size d) l at count products l 0
  none_turned = begin (λ j. le_of_eq (length-product l f (entry_in (R (number j))) (at + j / 1 * branch_size d) d no_bit (number j)))

  -- turn j, where code counts s words for a branch
  module _ {j : ℕ} (h : j < count) {s : ℕ} (es : s ≡ branch_size d) {b : List ℤ} (w : Writing (branch_size d) l at count products b j) {Q : Form} (eq : Q ≡ R (number j)) where
    abbrev place : ℕ
    place = at + j * branch_size d

    branch : Same b l place (branch_size d)
    branch = rest w place (branch_size d) (le_refl place)

    matrix : Same b l place (matrix_size d)
    matrix = part branch place (matrix_size d) (le_refl place) (omega arith)

    pub turning : Turning b f Q (at + j * s) d
    turning = transport⁻¹ (λ i. Turning b f (eq i) (at + j * es i) d) (still_turning p h (and_le_r (j / 2 ^ shift) mask) matrix)

    -- after the product
    module _ {q : List ℤ} (eq_product : q ≡ sets b (at + j * s) (held_words (d * d) (λ (k : ℕ). row_sum b f (entry_in Q) (at + j * s) d (k / d) (k % d)))) where
      abbrev entry : ℕ → Exact
      entry k = row_sum b f (entry_in (R (number j))) place d (k / d) (k % d)

      product : q ≡ sets b place (held_words (d * d) entry)
      product = eq_product ∙ (λ i. sets b (at + j * es i) (held_words (d * d) (λ (k : ℕ). row_sum b f (entry_in (eq i)) (at + j * es i) d (k / d) (k % d))))

      store : Same q l (place + matrix_size d) 2
      store =
          same_trans (apart_kept (held_words (d * d) entry) product (place + matrix_size d) 2 (inr (omega (arith, length_shared (d * d) entry)))) (part branch (place + matrix_size d) 2 (omega arith) (omega arith))

      abbrev stored : List ℤ
      stored = outcome_words l (place + matrix_size d) no_bit (number j)

      there : (k : ℕ) → k < 2 → get_or q (place + matrix_size d + k) (pos 0) ≡ get_or stored k (pos 0)
      there zero hk = ap (λ (w : ℕ). get_or q w (pos 0)) (add-zero (place + matrix_size d)) ∙ store.word (place + matrix_size d) (omega arith) (omega arith)
      there (suc zero) hk = store.word (place + matrix_size d + 1) (omega arith) (omega arith)
      there (suc (suc k)) hk = absurd (omega arith)

      pub turned_more : Writing (branch_size d) l at count products q (j + 1)
      turned_more =
          again w h
          (append_block b (held_words (d * d) entry) stored place (matrix_size d) (length_shared (d * d) entry) product (sym (sets_there stored q (place + matrix_size d) there)))
          (ap (λ (ws : List ℤ). ws ++ stored) (sums_same d matrix f (entry_in (R (number j))) p.below)
          ∙ ap (λ (k : ℕ). product_words l f (entry_in (R (number j))) (at + k * branch_size d) d no_bit (number j)) (sym (div-one j)))
