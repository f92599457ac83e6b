-- A row of p·1 + q·A times a matrix is a sum of two of its rows, where the axis A has a mask form; and so in words.
use mathlib.Core.Path.{◌≡◌, sym, ap, ap₂, ◌∙◌}
use mathlib.Core.Logic.{◌≢◌}
use mathlib.Core.Bool.{Bool, true, cond}
use mathlib.Core.List.{List}
use Prim.Native.Nat.{ℕ, ◌^◌, ◌≤◌, ◌<◌}
use lib.Bits.{bit_xor, xor_lt}
use lib.IntN.{ℤ}
use Rattle.algebra.specs.Sum.{times, δ}
use Rattle.algebra.proofs.Semi.{zero-mul, add-mul}
use Rattle.algebra.proofs.Sum.{sum_same, sum_one, sum-add}
use Rattle.algebra.proofs.Adjoint.{δ-same, δ-apart}
use Rattle.exact.specs.Exact.{Exact, exact, is_lowest}
use Rattle.exact.proofs.Exact.{exacts, one-by}
use Rattle.gate.specs.Embedding.{Matrix, Equal}
use Rattle.branches.specs.Inner.Step.{entry_at, row_sum}
use Rattle.branches.proofs.Numerators.{own_at, other_at}
use Rattle.pauli_nodes.specs.Inner.Masks.{Mask, mask_matrix}
use Rattle.pauli_nodes.specs.Inner.Laws.{InRange}
use Rattle.pauli_nodes.proofs.Computed.{small, xor_back}
use Rattle.pauli_nodes.proofs.Products.{mask-own, mask-other}
use Rattle.pauli_program.specs.Operators.{Coefficients, mixed}
use Rattle.pauli_steps.specs.Inner.Rows.{axis_entry, axis_row}

module _ (n : ℕ) (few : n ≤ 5) (m : Mask) (range : InRange n m) (A : Matrix) (is : Equal (2 ^ n) A (mask_matrix m)) where
  abbrev d : ℕ
  d = 2 ^ n

  pub partner_lt : (r : ℕ) → r < 2 ^ n → bit_xor r m.x < 2 ^ n
  partner_lt r hr = xor_lt n r m.x hr range.x_in

  back : (r : ℕ) → r < d → r ≡ bit_xor (bit_xor r m.x) m.x
  back r hr = sym (xor_back m.x r (small few m.x range.x_in) (small few r hr))

  entry : (r : ℕ) → r < d → A r (bit_xor r m.x) ≡ axis_entry m r
  entry r hr = is r (bit_xor r m.x) hr (partner_lt r hr) ∙ mask-own m r (bit_xor r m.x) (back r hr)

  nothing : (r k : ℕ) → r < d → k < d → k ≢ bit_xor r m.x → A r k ≡ exact.𝟘
  nothing r k hr hk e = is r k hr hk ∙ mask-other m r k (λ f. e (back k hk ∙ ap (λ (y : ℕ). bit_xor y m.x) (sym f)))

  row_is : (f : Coefficients) → is_lowest f.own ≡ true → (H : Matrix) (r c : ℕ) → r < 2 ^ n
      → exact.◌⊕◌ (exact.◌⊗◌ f.own (H r c)) (exact.◌⊗◌ (exact.◌⊗◌ f.other (axis_entry m r)) (H (bit_xor r m.x) c)) ≡ times exact (2 ^ n) (mixed f A) H r c
  row_is f low H r c hr = sym (
      sum_same exacts d _ _ (λ k hk. add-mul exacts (exact.◌⊗◌ f.own (δ exact r k)) (exact.◌⊗◌ f.other (A r k)) (H k c))
      ∙ sum-add exacts d (λ (k : ℕ). exact.◌⊗◌ (exact.◌⊗◌ f.own (δ exact r k)) (H k c)) (λ (k : ℕ). exact.◌⊗◌ (exact.◌⊗◌ f.other (A r k)) (H k c))
      ∙ ap₂ exact.◌⊕◌
      (sum_one exacts d r (λ (k : ℕ). exact.◌⊗◌ f.own (δ exact r k)) (λ (k : ℕ). H k c) hr
      (λ k hk e. ap (λ (x : Exact). exact.◌⊗◌ (exact.◌⊗◌ f.own x) (H k c)) (δ-apart exact r k (λ y. e (sym y))) ∙ ap (λ (x : Exact). exact.◌⊗◌ x (H k c)) (exacts.mul_zero f.own) ∙ zero-mul exacts (H k c))
      ∙ ap (λ (x : Exact). exact.◌⊗◌ x (H r c)) (ap (exact.◌⊗◌ f.own) (δ-same exact r) ∙ exacts.mul_comm f.own exact.𝟙 ∙ one-by f.own low))
      (sum_one exacts d (bit_xor r m.x) (λ (k : ℕ). exact.◌⊗◌ f.other (A r k)) (λ (k : ℕ). H k c) (partner_lt r hr)
      (λ k hk e. ap (λ (x : Exact). exact.◌⊗◌ (exact.◌⊗◌ f.other x) (H k c)) (nothing r k hr hk e) ∙ ap (λ (x : Exact). exact.◌⊗◌ x (H k c)) (exacts.mul_zero f.other) ∙ zero-mul exacts (H k c))
      ∙ ap (λ (x : Exact). exact.◌⊗◌ (exact.◌⊗◌ f.other x) (H (bit_xor r m.x) c)) (entry r hr)))

  pub sum_is : (f : Coefficients) → is_lowest f.own ≡ true → (l : List ℤ) (old r c : ℕ) → r < 2 ^ n → row_sum l m.x (axis_row m f.own f.other) old (2 ^ n) r c ≡ times exact (2 ^ n) (mixed f A) (entry_at l old (2 ^ n)) r c
  sum_is f low l old r c hr =
      let pair = λ (k : ℕ) (own : Bool). cond own f.own (exact.◌⊗◌ f.other (axis_entry m k)) in
      (λ i. exact.◌⊕◌ (exact.◌⊗◌ (own_at pair r i) (entry_at l old d r c)) (exact.◌⊗◌ (other_at pair r i) (entry_at l old d (bit_xor r m.x) c))) ∙ row_is f low (entry_at l old d) r c hr
