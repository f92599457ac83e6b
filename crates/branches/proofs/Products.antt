-- An operator of a gate times a matrix in words, row by row: a row of the product is a sum of two rows.
use mathlib.Core.Path.{◌≡◌, sym, ap, ◌∙◌, subst}
use mathlib.Core.Bool.{Bool, cond}
use mathlib.Core.List.{List, ◌++◌}
use Prim.Native.Nat.{ℕ, ◌+◌, ◌*◌, ◌/◌, ◌%◌, ◌^◌, ◌<◌, ◌≤◌}
use native.Mathlib.Omega.{arith}
use lib.Bits.{bit_xor}
use lib.IntN.{ℤ}
use Rattle.algebra.specs.Sum.{times}
use Rattle.algebra.proofs.Semi as semi
use Rattle.algebra.proofs.Sum.{sum-two}
use Rattle.algebra.proofs.Squares.{row_lt}
use Rattle.exact.specs.Exact.{Exact, exact}
use Rattle.exact.proofs.Exact.{exacts}
use Rattle.gate.specs.Gate.{Gate}
use Rattle.gate.specs.Embed.{gate_entry}
use Rattle.gate.specs.Inner.Entries.{flips, partner, row_entry, Ready}
use Rattle.gate.proofs.Partner.{Two, row-two}
use Rattle.rows.proofs.Held.{words_same}
use Rattle.branches.specs.Inner.Store.{outcome_words}
use Rattle.branches.specs.Inner.Bank.{matrix_size}
use Rattle.branches.specs.Inner.Step.{entry_at, row_sum, product, product_words}
use Rattle.branches.proofs.Numerators.{own_at, other_at}

-- row r of a product with an operator of a gate
module _ {n : ℕ} {g : Gate} {j d r : ℕ} (ready : Ready n g j) (few : n ≤ 5) (dim : d ≡ 2 ^ n) (hr : r < d) where
  in_dim : (k : ℕ) → k < d → k < 2 ^ n
  in_dim k h = subst (λ (e : ℕ). k < e) dim h

  columns : Two (2 ^ n) (gate_entry n g j r) r (partner n g r)
  columns = row-two ready few r (in_dim r hr)

  pub partner_lt : partner n g r < d
  partner_lt = subst (λ (e : ℕ). partner n g r < e) (sym dim) columns.below

  pub row_is : (H : ℕ → ℕ → Exact) (c : ℕ) → times exact d (gate_entry n g j) H r c ≡ exact.◌⊕◌ (exact.◌⊗◌ (gate_entry n g j r r) (H r c)) (exact.◌⊗◌ (gate_entry n g j r (partner n g r)) (H (partner n g r) c))
  row_is H c =
      sum-two exacts d r (partner n g r) (gate_entry n g j r) (λ (k : ℕ). H k c) hr partner_lt (λ e. columns.other (sym e))
      (λ k h a b. ap (λ (x : Exact). exact.◌⊗◌ x (H k c)) (columns.zeros k (in_dim k h) a b) ∙ semi.zero-mul exacts (H k c))

  own : row_entry n g j (r * 2) ≡ gate_entry n g j r r
  own = own_at (λ (k : ℕ) (b : Bool). gate_entry n g j k (cond b k (partner n g k))) r

  other : row_entry n g j (r * 2 + 1) ≡ gate_entry n g j r (partner n g r)
  other = other_at (λ (k : ℕ) (b : Bool). gate_entry n g j k (cond b k (partner n g k))) r

  -- the sum of two rows is the row of the product
  pub sum_is : (l : List ℤ) (old c : ℕ) → row_sum l (flips n g) (row_entry n g j) old d r c ≡ product l n g j old d r c
  sum_is l old c = (λ i. exact.◌⊕◌ (exact.◌⊗◌ (own i) (entry_at l old d r c)) (exact.◌⊗◌ (other i) (entry_at l old d (partner n g r) c))) ∙ sym (row_is (entry_at l old d) c)

-- an operator with the same entries in the d rows has the same products
pub product_same : (l : List ℤ) (m : ℕ) {E F : ℕ → Exact} (old d bit v : ℕ) → ((i : ℕ) → i < d * 2 → E i ≡ F i) → product_words l m E old d bit v ≡ product_words l m F old d bit v
product_same l m {E} {F} old d bit v e =
    λ i. words_same (d * d) (λ (k : ℕ). row_sum l m E old d (k / d) (k % d)) (λ (k : ℕ). row_sum l m F old d (k / d) (k % d)) (λ k h. row (k / d) (k % d) (row_lt k d h)) i
    ++ outcome_words l (old + matrix_size d) bit v
  where
    row : (r c : ℕ) → r < d → row_sum l m E old d r c ≡ row_sum l m F old d r c
    row r c h = λ i. exact.◌⊕◌ (exact.◌⊗◌ (e (r * 2) (omega arith) i) (entry_at l old d r c)) (exact.◌⊗◌ (e (r * 2 + 1) (omega arith) i) (entry_at l old d (bit_xor r m) c))
