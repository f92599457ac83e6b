-- Sizes: what the tests of numerators say, and what a well-formed or narrow number's numerators are at most.
use mathlib.Core.Path.{◌≡◌, ap, ◌∙◌}
use mathlib.Core.Bool.{Bool, true, ◌&&◌}
use mathlib.Core.List.{List}
use Prim.Native.Nat.{ℕ, ◌%◌, ◌≤◌, ◌<◌, ◌^◌}
use lib.Dec.{eqb, leb}
use lib.ListN.{get_or}
use lib.IntN.{ℤ, pos}
use lib.Signed.{mag}
use lib.Bits.{bit_and, bit_or}
use mir.Syntax.{w64}
use mir.Val.{of_z}
use borrow.Author.Tests.{le-leb, leb-true}
use Rattle.algebra.specs.Dyadic.{evenℤ}
use Rattle.algebra.proofs.Tests.{and_split}
use Rattle.algebra.proofs.Signed.{and_one, or_even, bit-parity}
use Rattle.exact.specs.Exact.{Exact, Number, within, number_halves, in_range, is_lowest, well_formed, narrow, max_numerator, max_exponent, narrow_numerator, narrow_exponent, number_of}
use Rattle.exact.specs.Inner.Sizes.{Within, room_numerator}
use Rattle.exact.proofs.Align.{roomy}

-- four tests, joined
pub and4 : {a b c d a' b' c' d' : Bool} → a ≡ a' → b ≡ b' → c ≡ c' → d ≡ d' → (((a && b) && c) && d) ≡ (((a' && b') && c') && d')
and4 p q r s = λ i. ((p i && q i) && r i) && s i

-- `a | b` is even where both are
even-two : (x y : ℤ) → mag x < 2 ^ 63 → mag y < 2 ^ 63 → eqb (bit_or (of_z w64 x) (of_z w64 y) % 2) 0 ≡ (evenℤ x && evenℤ y)
even-two x y h k = rw (or_even, bit-parity x (record { sfits = h }), bit-parity y (record { sfits = k }))

-- ---- a list of four words
module _ (l : List ℤ) where
  abbrev n : ℕ → ℤ
  n i = get_or l i (pos 0)

  -- the test `((a | b) | (c | d)) & 1 == 0`
  pub even-bits : mag (n 0) < 2 ^ 63 → mag (n 1) < 2 ^ 63 → mag (n 2) < 2 ^ 63 → mag (n 3) < 2 ^ 63
      → eqb (bit_and (bit_or (bit_or (of_z w64 (n 0)) (of_z w64 (n 1))) (bit_or (of_z w64 (n 2)) (of_z w64 (n 3)))) 1) 0 ≡ number_halves.even (number_of l)
  even-bits a b c d =
      ap (λ (k : ℕ). eqb k 0) (and_one (bit_or (bit_or (of_z w64 (n 0)) (of_z w64 (n 1))) (bit_or (of_z w64 (n 2)) (of_z w64 (n 3)))))
      ∙ or_even (bit_or (of_z w64 (n 0)) (of_z w64 (n 1))) (bit_or (of_z w64 (n 2)) (of_z w64 (n 3)))
      ∙ (λ i. even-two (n 0) (n 1) a b i && even-two (n 2) (n 3) c d i)

-- ---- bounds, as tests and as facts
pub within_of : (m : ℕ) (z : Number) → within m z ≡ true → Within m z
within_of m z e =
    let abc = and_split _ _ e in
    let ab = and_split _ _ abc.0 in
    let a = and_split _ _ ab.0 in
    record { w0 = leb-true _ _ a.0; w1 = leb-true _ _ a.1; w2 = leb-true _ _ ab.1; w3 = leb-true _ _ abc.1 }

pub of-within : (m : ℕ) (z : Number) → Within m z → within m z ≡ true
of-within m z w = and4 (le-leb _ _ w.w0) (le-leb _ _ w.w1) (le-leb _ _ w.w2) (le-leb _ _ w.w3)

module _ (x : Exact) (h : well_formed x ≡ true) where
  in_range_lem : in_range x ≡ true
  in_range_lem = (and_split (in_range x) (is_lowest x) h).0

  pub well_bound : Within max_numerator x.num
  well_bound = within_of max_numerator x.num (and_split (within max_numerator x.num) (leb x.exp max_exponent) in_range_lem).0

  pub well_within : Within room_numerator x.num
  well_within = roomy x.num well_bound

  pub well_exponent : x.exp ≤ max_exponent
  well_exponent = leb-true _ _ (and_split (within max_numerator x.num) (leb x.exp max_exponent) in_range_lem).1

  pub well_lowest : is_lowest x ≡ true
  well_lowest = (and_split (in_range x) (is_lowest x) h).1

module _ (x : Exact) (h : narrow x ≡ true) where
  pub narrow_bound : Within narrow_numerator x.num
  narrow_bound = within_of narrow_numerator x.num (and_split (within narrow_numerator x.num) (leb x.exp narrow_exponent) h).0

  pub narrow_exponent_lem : x.exp ≤ narrow_exponent
  narrow_exponent_lem = leb-true _ _ (and_split (within narrow_numerator x.num) (leb x.exp narrow_exponent) h).1
