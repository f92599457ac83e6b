-- The finished block is the shared form of all products: the rows that are worked out have their bits, and the others are copies or zero.
use mathlib.Core.Path.{◌≡◌, refl, sym, ap, ◌∙◌}
use mathlib.Core.Bool.{Bool, true, false, cond, not, ◌&&◌}
use mathlib.Core.List.{List}
use Prim.Native.Nat.{ℕ, ◌+◌, ◌*◌, ◌-◌, ◌/◌, ◌%◌, ◌^◌, min, ◌≤◌, ◌<◌}
use native.Mathlib.Decide.{dec_lt}
use native.Mathlib.Omega.{arith}
use lib.Arith.{digits_lt, digits_div, digits_mod}
use lib.Count.{count_trailing_zeros}
use lib.Dec.{eqb}
use lib.ListN.{length, get_or}
use lib.IntN.{ℤ}
use borrow.Author.Tests.{eq-eqb}
use Rattle.algebra.specs.Quadratic.{conjugate}
use Rattle.algebra.specs.Dyadic.{frac}
use Rattle.algebra.specs.Lists.{all_below}
use Rattle.algebra.proofs.Blocks.{length-blocks, blocks-same, blocks_over}
use Rattle.algebra.proofs.Quadratic.{ℤ√2i}
use Rattle.algebra.proofs.Ring.{semi}
use Rattle.algebra.proofs.Semi.{zero-mul}
use Rattle.algebra.proofs.Squares.{row_lt, column_lt}
use Rattle.algebra.proofs.Tests.{test_same, all-at, all-by}
use Rattle.exact.specs.Exact.{Number, numbers, number_halves, root2, list_of, is_zero}
use Rattle.exact.proofs.IsZero.{zero_is}
use Rattle.exact.proofs.Zeros.{shifted}
use Rattle.channel.specs.Forms.{Alike}
use Rattle.channel.specs.Shared.{all_halves}
use Rattle.channel.proofs.Zeros.{by_shift, by-zeros}
use Rattle.share.specs.Share.{number_in, with_numerators}
use Rattle.share.proofs.Numbers.{number-filled}
use Rattle.hermitian.proofs.Shifts.{shift-zero}
use Rattle.repeats.specs.Inner.Repeats.{times, product, products_shared, worked, row_clear, rows_cleared, rows_written, rows_finished, Firsts}

module _ {f : List ℕ} {m : List ℤ} {k w : ℕ} (firsts : Firsts f m k w) where
  -- number r, whether it is zero, and its first place
  abbrev x : ℕ → Number
  x r = number_in m (k + r * 4)

  abbrev first : ℕ → ℕ
  first r = get_or f r 0

  none-times : (r c : ℕ) → is_zero (x r) ≡ true → times (x r) m k c ≡ numbers.𝟘
  none-times r c z = ap (λ (y : Number). times y m k c) (zero_is (x r) z) ∙ zero-mul (semi ℤ√2i) (conjugate root2 (number_in m (k + c * 4)))

  none-shifted : (z : Number) (t : ℕ) → z ≡ numbers.𝟘 → shifted z t ≡ numbers.𝟘
  none-shifted z t = shift-zero (list_of z) 0 t

  -- the first row of a number that is not zero is worked out
  first-worked : (r : ℕ) → r < w → is_zero (x r) ≡ false → worked m k f (first r) ≡ true
  first-worked r h z = λ i. eq-eqb (first (first r)) (first r) (firsts.own r h) i && not ((ap is_zero (firsts.same r h) ∙ z) i)

  first-times : (r c : ℕ) → r < w → times (x (first r)) m k c ≡ times (x r) m k c
  first-times r c h = ap (λ (y : Number). times y m k c) (firsts.same r h)

  -- ---- the bits of the rows that are worked out are those of all
  module _ (j : ℕ) where
    abbrev clear : Number → Bool
    clear z = number_halves.even (shifted z j)

    all-clear : all_below w (row_clear m k f w j) ≡ (all_halves (w * w)).even (λ (i : ℕ). shifted (product m k w i) j)
    all-clear = test_same _ _ down up
      where
        row-clear : (r c : ℕ) → c < w → worked m k f r ≡ true → row_clear m k f w j r ≡ true → clear (times (x r) m k c) ≡ true
        row-clear r c h e q = all-at w (λ (c : ℕ). clear (times (x r) m k c)) (sym (ap (λ (b : Bool). cond b ((all_halves w).even (λ (c : ℕ). shifted (times (x r) m k c) j)) true) e) ∙ q) c h

        entry-clear : (r c : ℕ) → r < w → c < w → all_below w (row_clear m k f w j) ≡ true → (z : Bool) → is_zero (x r) ≡ z → clear (times (x r) m k c) ≡ true
        entry-clear r c hr hc e true z = ap number_halves.even (none-shifted (times (x r) m k c) j (none-times r c z))
        entry-clear r c hr hc e false z =
            let before = firsts.before r hr in
            ap clear (sym (first-times r c hr)) ∙ row-clear (first r) c hc (first-worked r hr z) (all-at w (row_clear m k f w j) e (first r) (omega arith))

        down : all_below w (row_clear m k f w j) ≡ true → (all_halves (w * w)).even (λ (i : ℕ). shifted (product m k w i) j) ≡ true
        down e = all-by (w * w) _ (λ i h. entry-clear (i / w) (i % w) (row_lt i w h) (column_lt i w h) e (is_zero (x (i / w))) refl)

        up : (all_halves (w * w)).even (λ (i : ℕ). shifted (product m k w i) j) ≡ true → all_below w (row_clear m k f w j) ≡ true
        up e = all-by w (row_clear m k f w j) (λ r hr. go r (worked m k f r) (all-by w _ (λ c hc.
            ap clear (sym (λ i. times (x (digits_div r hc i)) m k (digits_mod r hc i))) ∙ all-at (w * w) _ e (r * w + c) (digits_lt hr hc))))
          where
            go : (r : ℕ) (b : Bool) → (all_halves w).even (λ (c : ℕ). shifted (times (x r) m k c) j) ≡ true → cond b ((all_halves w).even (λ (c : ℕ). shifted (times (x r) m k c) j)) true ≡ true
            go r true q = q
            go r false q = refl

  -- shifted by the count of the zeros that end those bits, but by e at most
  pub products-alike : (e t u : ℕ) → (0 < e → (j : ℕ) → j < 63 → eqb (u / 2 ^ j % 2) 0 ≡ all_below w (row_clear m k f w j)) → e ≤ 63 → t ≡ count_trailing_zeros 64 (u % 2 ^ 63)
      → Alike (w * w) (frac (λ (i : ℕ). shifted (product m k w i) (min t e)) (e - min t e)) (products_shared m k w e)
  products-alike e t u bits small count = go (dec_lt 0 e)
    where
      go : Dec (0 < e) → Alike (w * w) (frac (λ (i : ℕ). shifted (product m k w i) (min t e)) (e - min t e)) (products_shared m k w e)
      go (yes some) = by-zeros (w * w) e t u (product m k w) (λ j h. bits some j h ∙ all-clear j) small count
      go (no none) = by_shift (w * w) e (min t e) (product m k w) (omega arith) (λ j h. absurd (omega arith)) (λ h. absurd (omega arith))

  -- ---- the block: b is l with the rows that are worked out, and o is b with all rows finished but those of zeros
  module _ (l : List ℤ) (out : ℕ) {b o : List ℤ} (t : ℕ) (room : out + w * w * 4 ≤ length l) (p : b ≡ with_numerators l out (w * w) (rows_written l out m k f w)) (q : o ≡ with_numerators b out (w * w) (rows_finished b out m k f w t)) where
    room_b : out + w * w * 4 ≤ length b
    room_b = omega (arith, room, ap length p, length-blocks 4 l out (λ (i : ℕ). list_of (rows_written l out m k f w i)) (w * w))

    -- entry (r, c) of b
    abbrev entry : Bool → ℕ → ℕ → Number
    entry s r c = cond s (times (x r) m k c) (number_in l (out + (r * w + c) * 4))

    first-written : (r c : ℕ) → r < w → c < w → is_zero (x r) ≡ false → number_in b (out + (first r * w + c) * 4) ≡ times (x r) m k c
    first-written r c hr hc z =
        let inside : first r < w = omega (arith, firsts.before r hr) in
        ap (λ (n : List ℤ). number_in n (out + (first r * w + c) * 4)) p
        ∙ number-filled (rows_written l out m k f w) l out (w * w) (first r * w + c) (digits_lt inside hc) room
        ∙ (λ i. entry (worked m k f (digits_div (first r) hc i)) (digits_div (first r) hc i) (digits_mod (first r) hc i))
        ∙ ap (λ (s : Bool). entry s (first r) c) (first-worked r hr z)
        ∙ first-times r c hr

    entry-finished : (i : ℕ) → i < w * w → is_zero (x (i / w)) ≡ false → number_in o (out + i * 4) ≡ shifted (product m k w i) t
    entry-finished i h z =
        ap (λ (n : List ℤ). number_in n (out + i * 4)) q
        ∙ number-filled (rows_finished b out m k f w t) b out (w * w) i h room_b
        ∙ ap (λ (z : Bool). cond z (number_in b (out + i * 4)) (shifted (number_in b (out + (first (i / w) * w + i % w) * 4)) t)) z
        ∙ ap (λ (y : Number). shifted y t) (first-written (i / w) (i % w) (row_lt i w h) (column_lt i w h) z)

    entry-cleared : (i : ℕ) → i < w * w → (z : Bool) → is_zero (x (i / w)) ≡ z → cond z numbers.𝟘 (number_in o (out + i * 4)) ≡ shifted (product m k w i) t
    entry-cleared i h true z = sym (none-shifted (product m k w i) t (none-times (i / w) (i % w) z))
    entry-cleared i h false z = entry-finished i h z

    -- the rows of zeros are cleared
    pub finished : {n : List ℤ} → n ≡ with_numerators o out (w * w) (rows_cleared o out m k w) → n ≡ with_numerators l out (w * w) (λ (i : ℕ). shifted (product m k w i) t)
    finished e =
        let over = λ (n : List ℤ). with_numerators n out (w * w) (λ (i : ℕ). shifted (product m k w i) t) in
        e
        ∙ blocks-same 4 o out (w * w) _ _ (λ i h. ap list_of (entry-cleared i h (is_zero (x (i / w))) refl))
        ∙ ap over q ∙ blocks_over 4 b out (w * w) _ _ (λ i. refl) (λ i. refl) room_b
        ∙ ap over p ∙ blocks_over 4 l out (w * w) _ _ (λ i. refl) (λ i. refl) room
