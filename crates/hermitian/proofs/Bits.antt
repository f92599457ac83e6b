-- The bits of the numbers on and above the diagonal of a Hermitian block tell how far all of its numbers can be shifted.
use mathlib.Core.Path.{◌≡◌, refl, sym, ap, ◌∙◌}
use mathlib.Core.Bool.{Bool, true, false, cond, ◌&&◌}
use mathlib.Core.List.{List}
use Prim.Native.Nat.{ℕ, zero, suc, ◌+◌, ◌*◌, ◌-◌, ◌/◌, ◌%◌, ◌^◌, min, ◌≤◌, ◌<◌}
use native.Mathlib.Nat.{le_refl, div-add-mod'}
use native.Mathlib.Omega.{arith}
use lib.Arith.{digits_lt}
use lib.Bits.{bit_or, or_zero_r}
use lib.Count.{count_trailing_zeros}
use lib.Dec.{eqb, leb}
use lib.ListN.{get_or}
use lib.IntN.{ℤ, pos}
use mir.Syntax.{w64}
use mir.Val.{SFits, of_z}
use borrow.Author.Tests.{leb-true, leb-false, le-leb}
use Rattle.algebra.specs.Quadratic.{conjugate}
use Rattle.algebra.specs.Dyadic.{frac}
use Rattle.algebra.specs.Lists.{all_below}
use Rattle.algebra.proofs.Tests.{test_same, all-at, all-by}
use Rattle.algebra.proofs.Squares.{row_lt, column_lt}
use Rattle.exact.specs.Exact.{Number, numbers, number_halves, root2}
use Rattle.exact.proofs.Zeros.{shifted}
use Rattle.channel.specs.Shared.{all_halves}
use Rattle.channel.specs.Forms.{Alike}
use Rattle.channel.proofs.Zeros.{Least, zeros_least, by_shift}
use Rattle.share.specs.Share.{number_in, or_words}
use Rattle.share.proofs.Laws.{digits, none-set}
use Rattle.overlaps.proofs.Rows.{later-place}
use Rattle.hermitian.specs.Inner.Upper.{mirrored_at, mirrored_from, or_upper, upper_shared}
use Rattle.hermitian.proofs.Shifts.{conj_shift, conj_even}
use Rattle.hermitian.proofs.Mirrored.{mirror_is}

-- ---- zero numbers have no bits
module _ (l : List ℤ) (at n : ℕ) (none : (k : ℕ) → k < n → number_in l (at + k * 4) ≡ numbers.𝟘) where
  pub word-none : (i : ℕ) → i < n * 4 → get_or l (at + i) (pos 0) ≡ pos 0
  word-none i h = ap (λ (w : ℕ). get_or l w (pos 0)) place ∙ by (i % 4) (omega arith) (none (i / 4) (omega arith))
    where
      place : at + i ≡ at + i / 4 * 4 + i % 4
      place = omega arith

      by : (j : ℕ) → j < 4 → number_in l (at + i / 4 * 4) ≡ numbers.𝟘 → get_or l (at + i / 4 * 4 + j) (pos 0) ≡ pos 0
      by zero h e = ap (λ (w : ℕ). get_or l w (pos 0)) (omega arith) ∙ ap (λ (z : Number). z.re.re) e
      by (suc zero) h e = ap (λ (z : Number). z.re.im) e
      by (suc (suc zero)) h e = ap (λ (z : Number). z.im.re) e
      by (suc (suc (suc zero))) h e = ap (λ (z : Number). z.im.im) e
      by (suc (suc (suc (suc j)))) h e = absurd (omega arith)

pub or_none : (g : ℕ) (l : List ℤ) (at n : ℕ) → ((i : ℕ) → i < n → get_or l (at + i) (pos 0) ≡ pos 0) → or_words g l at n ≡ g
or_none g l at zero h = refl
or_none g l at (suc n) h = (λ i. bit_or (or_none g l at n (λ j p. h j (omega arith)) i) (of_z w64 (h n (omega arith) i))) ∙ or_zero_r g

-- ---- numbers on and above the diagonal that are even when shifted by j
module _ (l : List ℤ) (out w : ℕ) where
  abbrev row_even : ℕ → ℕ → Bool
  row_even j r = (all_halves (w - r)).even (λ (k : ℕ). shifted (number_in l (out + (r * w + r) * 4 + k * 4)) j)

  abbrev upper_even : ℕ → Bool
  upper_even j = all_below w (row_even j)

  -- number (r, c)
  number_is : (r k : ℕ) → number_in l (out + (r * w + r) * 4 + k * 4) ≡ number_in l (out + (r * w + (r + k)) * 4)
  number_is r k = ap (number_in l) (later-place out w r k)

  upper_at : (j : ℕ) → upper_even j ≡ true → (r c : ℕ) → r ≤ c → c < w → number_halves.even (shifted (number_in l (out + (r * w + c) * 4)) j) ≡ true
  upper_at j e r c h hc =
      let back : r + (c - r) ≡ c = omega arith in
      ap (λ (z : Number). number_halves.even (shifted z j)) (ap (λ (k : ℕ). number_in l (out + (r * w + k) * 4)) (sym back) ∙ sym (number_is r (c - r)))
      ∙ all-at (w - r) _ (all-at w (row_even j) e r (omega arith)) (c - r) (omega arith)

  -- all are, where those are for each smaller shift
  mirror_even : (j : ℕ) → ((i : ℕ) → i < j → upper_even i ≡ true) → (all_halves (w * w)).even (λ (k : ℕ). shifted (mirrored_at l out w k) j) ≡ upper_even j
  mirror_even j before = test_same _ _ down up
    where
      down : (all_halves (w * w)).even (λ (k : ℕ). shifted (mirrored_at l out w k) j) ≡ true → upper_even j ≡ true
      down e = all-by w (row_even j) (λ r hr. all-by (w - r) _ (λ k hk.
          let hc : r + k < w = omega arith in
          ap (λ (z : Number). number_halves.even (shifted z j)) (number_is r k ∙ sym (mirror_is l out w r (r + k) true hc (le-leb r (r + k) (omega arith))))
          ∙ all-at (w * w) _ e (r * w + (r + k)) (digits_lt hr hc)))

      up : upper_even j ≡ true → (all_halves (w * w)).even (λ (k : ℕ). shifted (mirrored_at l out w k) j) ≡ true
      up e = all-by (w * w) _ (λ k h. go k h (leb (k / w) (k % w)) refl)
        where
          go : (k : ℕ) → k < w * w → (t : Bool) → leb (k / w) (k % w) ≡ t
              → number_halves.even (shifted (cond t (number_in l (out + k * 4)) (conjugate root2 (number_in l (out + (k % w * w + k / w) * 4)))) j) ≡ true
          go k h true q =
              ap (λ (i : ℕ). number_halves.even (shifted (number_in l (out + i * 4)) j)) (sym (div-add-mod' k w))
              ∙ upper_at j e (k / w) (k % w) (leb-true (k / w) (k % w) q) (column_lt k w h)
          go k h false q =
              let le : k % w ≤ k / w = let p = leb-false (k / w) (k % w) q in omega arith in
              let z = number_in l (out + (k % w * w + k / w) * 4) in
              ap number_halves.even (conj_shift z j (λ i p. upper_at i (before i p) (k % w) (k / w) le (row_lt k w h)))
              ∙ conj_even (shifted z j) ∙ upper_at j e (k % w) (k / w) le (row_lt k w h)

  module _ (fits : (r i : ℕ) → r < w → i < (w - r) * 4 → SFits w64 (get_or l (out + (r * w + r) * 4 + i) (pos 0))) where
    upper_digits : (j r : ℕ) → j < 63 → r ≤ w → eqb (or_upper l out w r / 2 ^ j % 2) 0 ≡ all_below r (row_even j)
    upper_digits j zero h p = none-set j
    upper_digits j (suc r) h p = digits l (out + (r * w + r) * 4) (or_upper l out w r) j (w - r) h (λ i q. fits r i p q) ∙ ap (λ (b : Bool). b && row_even j r) (upper_digits j r h (omega arith))

    -- shifted by the count t of the zeros that end the bits, but by e at most
    module _ (e t : ℕ) (small : e ≤ 63) (count : t ≡ count_trailing_zeros 64 (or_upper l out w w % 2 ^ 63)) where
      least : Least e t upper_even
      least = zeros_least e t (or_upper l out w w) upper_even (λ j h. upper_digits j w h (le_refl w)) small count

      pub mirror-alike : Alike (w * w) (frac (λ (k : ℕ). shifted (mirrored_at l out w k) (min t e)) (e - min t e)) (mirrored_from l out w e)
      mirror-alike =
          by_shift (w * w) e (min t e) (mirrored_at l out w) (omega arith)
          (λ j h. mirror_even j (λ i p. least.below i (omega arith)) ∙ least.below j h)
          (λ h. mirror_even (min t e) least.below ∙ least.at h)

      pub shared_is : (k : ℕ) → k < w * w → upper_shared l out w (min t e) k ≡ shifted (mirrored_at l out w k) (min t e)
      shared_is k h = go (leb (k / w) (k % w)) refl
        where
          r : ℕ
          r = k / w

          c : ℕ
          c = k % w

          go : (b : Bool) → leb r c ≡ b → cond b (shifted (number_in l (out + k * 4)) (min t e)) (conjugate root2 (shifted (number_in l (out + (c * w + r) * 4)) (min t e)))
              ≡ shifted (cond b (number_in l (out + k * 4)) (conjugate root2 (number_in l (out + (c * w + r) * 4)))) (min t e)
          go true q = refl
          go false q =
              let le : c ≤ r = let p = leb-false r c q in omega arith in
              sym (conj_shift (number_in l (out + (c * w + r) * 4)) (min t e) (λ i p. upper_at i (least.below i p) c r le (row_lt k w h)))
