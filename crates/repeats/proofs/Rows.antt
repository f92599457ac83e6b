-- The block of products of numbers of which many are equal, while its rows are written and finished.
use mathlib.Core.Path.{◌≡◌, refl, sym, ap, ◌∙◌}
use mathlib.Core.Bool.{Bool, true, false, cond, ◌&&◌}
use mathlib.Core.List.{List, [], ◌∷◌}
use Prim.Native.Nat.{ℕ, ◌+◌, ◌*◌, ◌-◌, ◌/◌, ◌%◌, ◌^◌, ◌≤◌, ◌<◌}
use native.Mathlib.Nat.{le_refl, zero-mul}
use native.Mathlib.Omega.{arith}
use lib.Arith.{digits_div, digits_mod}
use lib.Dec.{eqb}
use lib.ListN.{length, get_or}
use lib.IntN.{ℤ, pos}
use lib.Signed.{shr_z}
use mir.Syntax.{w64}
use mir.Val.{SFits, to_z, of_z}
use mir.Facts.{of_z-to_z, Fits-of_z}
use borrow.Author.Tests.{eqb-true, eqb-false, eq-eqb, ne_eqb}
use Rattle.algebra.specs.Quadratic.{conjugate}
use Rattle.algebra.specs.Words.{fill_words}
use Rattle.algebra.proofs.Blocks.{Writing, begin, block_in_lem, blocks-same, blocks_more}
use Rattle.exact.specs.Exact.{Number, numbers, number_halves, root2, list_of, is_zero}
use Rattle.exact.proofs.Zeros.{shifted}
use Rattle.channel.specs.Shared.{all_halves}
use Rattle.channel.proofs.RoundTrip.{all_same}
use Rattle.share.specs.Share.{number_in, or_words, with_numerators}
use Rattle.share.proofs.Numbers.{number-filled, numbers-there, zero-numbers}
use Rattle.share.proofs.Laws.{digits, shifts_are}
use Rattle.overlaps.proofs.Rows.{Rows, row_more, own_is, row-place}
use Rattle.hermitian.specs.Inner.Upper.{shifted_at}
use Rattle.repeats.specs.Inner.Repeats.{times, worked, row_clear, rows_cleared, row_written, rows_written, row_finished, rows_finished, Firsts}

-- bits that are read back
pub back : (x : ℤ) → SFits w64 x → of_z w64 (to_z w64 (of_z w64 x)) ≡ of_z w64 x
back x h = of_z-to_z {w = w64} (Fits-of_z {w = w64} {z = x} h)

-- ---- a product that stands in the row already
pub stands : (l : List ℤ) (to : ℕ) (x : Number) {m : List ℤ} {k c w : ℕ} {f : List ℕ} {b : List ℤ} → Firsts f m k w → c < w → to + w * 4 ≤ length l → b ≡ with_numerators l to c (times x m k)
    → get_or f c 0 < c → number_in b (to + get_or f c 0 * 4) ≡ times x m k c
stands l to x {m} {k} {c} {w} {f} firsts h room e p =
    ap (λ (n : List ℤ). number_in n (to + get_or f c 0 * 4)) e
    ∙ number-filled (times x m k) l to c (get_or f c 0) p (omega arith)
    ∙ ap (λ (y : Number). numbers.◌⊗◌ x (conjugate root2 y)) (firsts.same c h)

-- ---- row r written
module _ (l : List ℤ) (out : ℕ) (m : List ℤ) (k : ℕ) (f : List ℕ) (w r : ℕ) where
  abbrev to : ℕ
  to = out + r * w * 4

  -- it is not worked out
  pub row-none : worked m k f r ≡ false → l ≡ with_numerators l to w (row_written l out m k f w r)
  row-none e =
      sym (numbers-there l to w (row_written l out m k f w r) (λ c h. ap (λ (b : Bool). cond b (times (number_in m (k + r * 4)) m k c) (number_in l (out + (r * w + c) * 4))) e ∙ ap (number_in l) (sym (row-place out w r c))))

  -- it is
  module _ (e : worked m k f r ≡ true) {n : List ℤ} (q : n ≡ with_numerators l to w (times (number_in m (k + r * 4)) m k)) where
    pub bits-some : to + w * 4 ≤ length l → ((i : ℕ) → i < w * 4 → SFits w64 (get_or n (to + i) (pos 0))) → (g j : ℕ) → j < 63
        → eqb (or_words g n to (w * 4) / 2 ^ j % 2) 0 ≡ (eqb (g / 2 ^ j % 2) 0 && row_clear m k f w j r)
    bits-some room fit g j h =
        digits n to g j w h fit
        ∙ ap (λ (b : Bool). eqb (g / 2 ^ j % 2) 0 && b)
        (all_same w _ _ (λ c p. ap (λ (z : Number). number_halves.even (shifted z j)) (ap (λ (o : List ℤ). number_in o (to + c * 4)) q ∙ number-filled (times (number_in m (k + r * 4)) m k) l to w c p room))
        ∙ sym (ap (λ (b : Bool). cond b ((all_halves w).even (λ (c : ℕ). shifted (times (number_in m (k + r * 4)) m k c) j)) true) e))

-- ---- b is l with r rows written
module _ {l : List ℤ} {out : ℕ} (m : List ℤ) (k : ℕ) (f : List ℕ) {w : ℕ} {b : List ℤ} {r : ℕ} (hr : r < w) (ws : Rows l out w (rows_written l out m k f w) b r) where
  pub write_more : {n : List ℤ} → n ≡ with_numerators b (out + r * w * 4) w (row_written b out m k f w r) → Rows l out w (rows_written l out m k f w) n (r + 1)
  write_more q = row_more hr ws (q ∙ blocks-same 4 b (out + r * w * 4) w _ _ (λ c h. ap list_of (one c h)))
    where
      one : (c : ℕ) → c < w → row_written b out m k f w r c ≡ rows_written l out m k f w (r * w + c)
      one c h =
          (λ i. cond (worked m k f r) (times (number_in m (k + r * 4)) m k c) (own_is hr ws c i))
          ∙ sym (λ i. row_written l out m k f w (digits_div r h i) (digits_mod r h i))

-- ---- row r finished
module _ (l : List ℤ) (out : ℕ) (m : List ℤ) (k : ℕ) (f : List ℕ) (w t r : ℕ) where
  abbrev place : ℕ
  place = out + r * w * 4

  abbrev one_of : Bool → Bool → ℕ → Number
  one_of z s c = cond z (number_in l (out + (r * w + c) * 4)) (cond s (shifted_at l (out + (r * w + c) * 4) t) (number_in l (out + (get_or f r 0 * w + c) * 4)))

  -- number r is zero
  pub passed : is_zero (number_in m (k + r * 4)) ≡ true → l ≡ with_numerators l place w (row_finished l out m k f w t r)
  passed e = sym (numbers-there l place w _ (λ c h. ap (λ (z : Bool). one_of z (eqb (get_or f r 0) r) c) e ∙ ap (number_in l) (sym (row-place out w r c))))

  module _ (e : is_zero (number_in m (k + r * 4)) ≡ false) where
    -- row r is the first one
    pub shared : get_or f r 0 ≡ r → {n : List ℤ} → n ≡ fill_words l place (w * 4) (λ (i : ℕ). shr_z (get_or l (place + i) (pos 0)) (2 ^ t)) → n ≡ with_numerators l place w (row_finished l out m k f w t r)
    shared s q =
        q ∙ shifts_are l place w t
        ∙ blocks-same 4 l place w _ _ (λ c h. ap list_of (ap (λ (at : ℕ). shifted_at l at t) (row-place out w r c) ∙ sym (λ i. one_of (e i) (eq-eqb (get_or f r 0) r s i) c)))

    -- an earlier one is
    pub copied : (get_or f r 0 ≡ r → ⊥) → {n : List ℤ} → n ≡ with_numerators l place w (λ (c : ℕ). number_in l (out + get_or f r 0 * w * 4 + c * 4)) → n ≡ with_numerators l place w (row_finished l out m k f w t r)
    copied s q = q ∙ blocks-same 4 l place w _ _ (λ c h. ap list_of (ap (number_in l) (row-place out w (get_or f r 0) c) ∙ sym (λ i. one_of (e i) (ne_eqb (get_or f r 0) r s i) c)))

-- ---- b is l with r rows finished
module _ {l : List ℤ} {out : ℕ} {m : List ℤ} {k : ℕ} {f : List ℕ} {w : ℕ} (t : ℕ) {b : List ℤ} {r : ℕ} (firsts : Firsts f m k w) (room : out + w * w * 4 ≤ length l) (hr : r < w)
    (ws : Rows l out w (rows_finished l out m k f w t) b r) where
  abbrev z_of : ℕ → Bool
  z_of q = is_zero (number_in m (k + q * 4))

  -- entry i of row q, with first row p
  abbrev entry : Bool → ℕ → ℕ → ℕ → Number
  entry z i p c = cond z (number_in l (out + i * 4)) (shifted_at l (out + (p * w + c) * 4) t)

  entry-is : (q c : ℕ) → c < w → rows_finished l out m k f w t (q * w + c) ≡ entry (z_of q) (q * w + c) (get_or f q 0) c
  entry-is q c h = λ i. entry (z_of (digits_div q h i)) (q * w + c) (get_or f (digits_div q h i) 0) (digits_mod q h i)

  -- that of the first row, which is finished
  earlier : (c : ℕ) → c < w → get_or f r 0 < r → z_of r ≡ false → number_in b (out + (get_or f r 0 * w + c) * 4) ≡ shifted_at l (out + (get_or f r 0 * w + c) * 4) t
  earlier c h p e =
      ap (λ (n : List ℤ). number_in n (out + (get_or f r 0 * w + c) * 4)) ws.is
      ∙ number-filled (rows_finished l out m k f w t) l out (r * w) (get_or f r 0 * w + c) (omega (arith, block_in_lem p w)) (omega (arith, room, block_in_lem hr w))
      ∙ entry-is (get_or f r 0) c h
      ∙ (λ i. entry ((ap is_zero (firsts.same r hr) ∙ e) i) (get_or f r 0 * w + c) (firsts.own r hr i) c)

  pub finish_more : {n : List ℤ} → n ≡ with_numerators b (out + r * w * 4) w (row_finished b out m k f w t r) → Rows l out w (rows_finished l out m k f w t) n (r + 1)
  finish_more q = row_more hr ws (q ∙ blocks-same 4 b (out + r * w * 4) w _ _ (λ c h. ap list_of (go c h (z_of r) (eqb (get_or f r 0) r) refl refl ∙ sym (entry-is r c h))))
    where
      go : (c : ℕ) → c < w → (z s : Bool) → z_of r ≡ z → eqb (get_or f r 0) r ≡ s
          → cond z (number_in b (out + (r * w + c) * 4)) (cond s (shifted_at b (out + (r * w + c) * 4) t) (number_in b (out + (get_or f r 0 * w + c) * 4))) ≡ entry z (r * w + c) (get_or f r 0) c
      go c h true s e p = own_is hr ws c
      go c h false true e p = ap (λ (x : Number). shifted x t) (own_is hr ws c) ∙ ap (λ (q : ℕ). shifted_at l (out + (q * w + c) * 4) t) (sym (eqb-true (get_or f r 0) r p))
      go c h false false e p = let n = eqb-false (get_or f r 0) r p in earlier c h (omega (arith, firsts.before r hr)) e

-- ---- b is l with r rows cleared, if they are rows of zeros
module _ {l : List ℤ} {out : ℕ} (m : List ℤ) (k : ℕ) {w : ℕ} {b : List ℤ} {r : ℕ} (hr : r < w) (ws : Rows l out w (rows_cleared l out m k w) b r) where
  abbrev entry-cleared : Bool → ℕ → Number
  entry-cleared z c = cond z numbers.𝟘 (number_in l (out + (r * w + c) * 4))

  row-cleared : (z : Bool) → is_zero (number_in m (k + r * 4)) ≡ z → (c : ℕ) → c < w → rows_cleared l out m k w (r * w + c) ≡ entry-cleared z c
  row-cleared z e c h = (λ i. entry-cleared (is_zero (number_in m (k + digits_div r h i * 4))) c) ∙ ap (λ (z : Bool). entry-cleared z c) e

  pub clear_more : is_zero (number_in m (k + r * 4)) ≡ true → {n : List ℤ} → n ≡ fill_words b (out + r * w * 4) (w * 4) (λ (i : ℕ). pos 0) → Rows l out w (rows_cleared l out m k w) n (r + 1)
  clear_more e q = row_more hr ws (q ∙ zero-numbers b (out + r * w * 4) w ∙ blocks-same 4 b (out + r * w * 4) w _ _ (λ c h. ap list_of (sym (row-cleared true e c h))))

  pub clear_past : is_zero (number_in m (k + r * 4)) ≡ false → Rows l out w (rows_cleared l out m k w) b (r + 1)
  clear_past e = row_more hr ws (sym (numbers-there b (out + r * w * 4) w _ (λ c h. row-cleared false e c h ∙ sym (own_is hr ws c) ∙ ap (number_in b) (sym (row-place out w r c)))))

-- ---- b with rows `from` to r − 1 cleared too: they are rows of zeros, and wait for the row that ends them
abbrev pub waiting : List ℤ → ℕ → ℕ → ℕ → ℕ → List ℤ
waiting b out w from r = fill_words b (out + from * (w * 4)) ((r - from) * (w * 4)) (λ (i : ℕ). pos 0)

pub none-waits : (b : List ℤ) (out w r : ℕ) → b ≡ waiting b out w r r
none-waits b out w r =
    let at : ℕ = out + r * (w * 4) in
    let start : Writing 1 b at 0 (λ (i : ℕ). pos 0 ∷ []) b 0 = begin (λ k. le_refl 1) in
    let none : r - r ≡ 0 = omega arith in
    start.is ∙ ap (λ (n : ℕ). fill_words b at n (λ (i : ℕ). pos 0)) (sym (ap (λ (n : ℕ). n * (w * 4)) none ∙ zero-mul (w * 4)))

row_waits : (b : List ℤ) (out w from j : ℕ)
    → fill_words b (out + from * (w * 4)) ((j + 1) * (w * 4)) (λ (i : ℕ). pos 0)
    ≡ fill_words (fill_words b (out + from * (w * 4)) (j * (w * 4)) (λ (i : ℕ). pos 0)) (out + (from + j) * w * 4) (w * 4) (λ (i : ℕ). pos 0)
row_waits b out w from j =
    let at : ℕ = out + from * (w * 4) in
    let place : at + j * (w * 4) * 1 ≡ out + (from + j) * w * 4 = omega arith in
    let count : (j + 1) * (w * 4) ≡ j * (w * 4) + w * 4 = omega arith in
    ap (λ (n : ℕ). fill_words b at n (λ (i : ℕ). pos 0)) count ∙ sym (blocks_more 1 b at (j * (w * 4)) (w * 4) (λ (i : ℕ). pos 0 ∷ []))
    ∙ ap (λ (p : ℕ). fill_words (fill_words b at (j * (w * 4)) (λ (i : ℕ). pos 0)) p (w * 4) (λ (i : ℕ). pos 0)) place

pub more-wait : (b : List ℤ) (out w : ℕ) {from r : ℕ} → from ≤ r → waiting b out w from (r + 1) ≡ fill_words (waiting b out w from r) (out + r * w * 4) (w * 4) (λ (i : ℕ). pos 0)
more-wait b out w {from} {r} h =
    let more : r + 1 - from ≡ r - from + 1 = omega arith in
    let there : from + (r - from) ≡ r = omega arith in
    ap (λ (n : ℕ). fill_words b (out + from * (w * 4)) (n * (w * 4)) (λ (i : ℕ). pos 0)) more ∙ row_waits b out w from (r - from)
    ∙ ap (λ (q : ℕ). fill_words (waiting b out w from r) (out + q * w * 4) (w * 4) (λ (i : ℕ). pos 0)) there
