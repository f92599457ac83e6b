-- Rows of numerators multiplied and added: their sizes, what a loop that writes them still reads, rows of which one is multiplied by zero or that are the same, and factors that are equal or opposite.
use mathlib.Core.Path.{◌≡◌, sym, ap, ◌∙◌}
use mathlib.Core.Bool.{true}
use mathlib.Core.List.{List}
use mathlib.Core.Logic.{◌⊎◌, inl, inr}
use Prim.Native.Nat.{ℕ, ◌+◌, ◌*◌, ◌<◌}
use native.Mathlib.Nat.{le_of_eq}
use lib.Dec.{lit≤}
use lib.IntN.{ℤ}
use Rattle.algebra.proofs.Semi.{zero-mul, add-mul}
use Rattle.algebra.proofs.Ring.{semi, add-zero}
use Rattle.algebra.proofs.Quadratic.{ℤ√2i}
use Rattle.algebra.specs.Inner.Apart.{Apart}
use Rattle.algebra.proofs.Blocks.{Writing, Same, kept, rest, cut, block_in_lem, blocks-same}
use Rattle.exact.specs.Exact.{Number, numbers, number_of, list_of, is_zero, max_numerator, narrow_numerator}
use Rattle.exact.specs.Inner.Sizes.{Within, room_numerator}
use Rattle.exact.proofs.Align.{widen, mul-within, roomy}
use Rattle.exact.proofs.IsZero.{zero_is}
use Rattle.share.specs.Share.{number_in, with_numerators}
use Rattle.share.proofs.Numbers.{number_same, numbers-there}
use Rattle.rows.specs.Inner.Rows.{scaled_row, combined_row}

-- what is read from the same four words
pub number_read : {l m v : List ℤ} {at : ℕ} → Same l m at 4 → v ≡ list_of (number_in l at) → number_of v ≡ number_in m at
number_read s e = ap number_of e ∙ number_same s

product_fits : (x y : Number) → Within narrow_numerator x → Within narrow_numerator y → Within max_numerator (numbers.◌⊗◌ x y)
product_fits x y h k = widen (6 * (narrow_numerator * narrow_numerator)) max_numerator (numbers.◌⊗◌ x y) (lit≤ tt) (mul-within narrow_numerator narrow_numerator x y h k)

-- two products may be added
pub sum_fits : (x y z w : Number) → Within narrow_numerator x → Within narrow_numerator y → Within narrow_numerator z → Within narrow_numerator w
    → Within room_numerator (numbers.◌⊗◌ x y) × Within max_numerator (numbers.◌⊗◌ z w)
sum_fits x y z w hx hy hz hw = (roomy _ (product_fits x y hx hy), product_fits z w hz hw)

zero-times : (x y : Number) → is_zero x ≡ true → numbers.◌⊗◌ x y ≡ numbers.𝟘
zero-times x y z = ap (λ (v : Number). numbers.◌⊗◌ v y) (zero_is x z) ∙ zero-mul (semi ℤ√2i) y

-- number c of a row that a loop writes over, or of one apart from what it writes, is as it was until then
pub unread : {l b : List ℤ} {from to d c : ℕ} {f : ℕ → List ℤ} → Writing 4 l to d f b c → (from ≡ to) ⊎ Apart from (d * 4) to (d * 4) → c < d → Same b l (from + c * 4) 4
unread {from = from} {to} {d} {c} w (inl e) h = rest w (from + c * 4) 4 (le_of_eq (ap (λ (k : ℕ). k + c * 4) (sym e)))
unread {from = from} {to} {d} {c} w (inr a) h = cut (kept w from (d * 4) a) 4 c (block_in_lem h 4)

module _ (l : List ℤ) (x : Number) (p : ℕ) (y : Number) (q c : ℕ) where
  pub left-number : is_zero y ≡ true → scaled_row l x p c ≡ combined_row l x p y q c
  left-number z = sym (ap (numbers.◌⊕◌ (scaled_row l x p c)) (zero-times y (number_in l (q + c * 4)) z) ∙ add-zero ℤ√2i (scaled_row l x p c))

  right-number : is_zero x ≡ true → scaled_row l y q c ≡ combined_row l x p y q c
  right-number z = sym (ap (λ (v : Number). numbers.◌⊕◌ v (scaled_row l y q c)) (zero-times x (number_in l (p + c * 4)) z) ∙ ℤ√2i.zero-add (scaled_row l y q c))

module _ (l : List ℤ) (x : Number) (p : ℕ) (y : Number) (q to d : ℕ) {b : List ℤ} where
  pub left-row : is_zero y ≡ true → b ≡ with_numerators l to d (scaled_row l x p) → b ≡ with_numerators l to d (combined_row l x p y q)
  left-row z e = e ∙ blocks-same 4 l to d _ _ (λ c h. ap list_of (left-number l x p y q c z))

  pub right-row : is_zero x ≡ true → b ≡ with_numerators l to d (scaled_row l y q) → b ≡ with_numerators l to d (combined_row l x p y q)
  right-row z e = e ∙ blocks-same 4 l to d _ _ (λ c h. ap list_of (right-number l x p y q c z))

-- ---- a row written over: times one, it stays
pub times_one : (l : List ℤ) (x : Number) (p d : ℕ) → x ≡ numbers.𝟙 → l ≡ with_numerators l p d (scaled_row l x p)
times_one l x p d e = sym (numbers-there l p d (scaled_row l x p) (λ c h. ap (λ (x : Number). scaled_row l x p c) e ∙ ℤ√2i.one-mul (number_in l (p + c * 4))))

-- its own multiple and another of it are its multiple by their sum
pub folded : (l : List ℤ) (x y : Number) (p d : ℕ) {b : List ℤ} → b ≡ with_numerators l p d (scaled_row l (numbers.◌⊕◌ x y) p) → b ≡ with_numerators l p d (combined_row l x p y p)
folded l x y p d e = e ∙ blocks-same 4 l p d _ _ (λ c h. ap list_of (add-mul (semi ℤ√2i) x y (number_in l (p + c * 4))))
