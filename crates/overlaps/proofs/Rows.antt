-- A block while its rows are written: overlaps from the diagonal on, written or added.
use mathlib.Core.Path.{◌≡◌, sym, ap, ◌∙◌, subst}
use mathlib.Core.Bool.{Bool, true, false, cond}
use mathlib.Core.List.{List}
use Prim.Native.Nat.{ℕ, ◌+◌, ◌*◌, ◌-◌, ◌≤◌, ◌<◌}
use native.Mathlib.Nat.{le_refl, zero-mul}
use native.Mathlib.Omega.{arith}
use lib.Arith.{digits_div, digits_mod}
use lib.Dec.{leb}
use lib.ListN.{length}
use lib.IntN.{ℤ}
use borrow.Author.Tests.{le-leb, lt-leb}
use Rattle.algebra.proofs.Blocks.{Writing, begin, long, rest, Same, block_in_lem, blocks-same, blocks_more}
use Rattle.exact.specs.Exact.{Number, numbers, is_zero, list_of, max_numerator}
use Rattle.exact.specs.Inner.Sizes.{Within}
use Rattle.share.specs.Share.{number_in, with_numerators}
use Rattle.overlaps.specs.Inner.Overlap.{raise, raised_at, overlap, added, row_added, upper_added, row_written, upper_written, Raised, Row, Starting, Upper, Fresh}
use Rattle.overlaps.proofs.Sizes.{raised_of}
use Rattle.overlaps.proofs.Numbers.{left-zero}
use Rattle.share.proofs.Numbers.{number_same, numbers-there}

-- ---- b is l with r rows written
abbrev pub Rows : List ℤ → ℕ → ℕ → (ℕ → Number) → List ℤ → ℕ → Type 0
Rows l out w f b r = Writing 4 l out (w * w) (λ (i : ℕ). list_of (f i)) b (r * w)

pub no_rows : (l : List ℤ) (out w : ℕ) (f : ℕ → Number) → Rows l out w f l 0
no_rows l out w f = subst (Writing 4 l out (w * w) (λ (i : ℕ). list_of (f i)) l) (sym (zero-mul w)) (begin (λ k. le_refl 4))

module _ {l : List ℤ} {out w : ℕ} {f : ℕ → Number} {b : List ℤ} {r : ℕ} (hr : r < w) (ws : Rows l out w f b r) where
  -- one row more
  pub row_more : {n : List ℤ} → n ≡ with_numerators b (out + r * w * 4) w (λ (c : ℕ). f (r * w + c)) → Rows l out w f n (r + 1)
  row_more q =
      record {
        sized = λ k. le_refl 4;
        count = omega (arith, block_in_lem hr w);
        is =
            q
            ∙ ap (λ (o : List ℤ). with_numerators o (out + r * w * 4) w (λ (c : ℕ). f (r * w + c))) ws.is
            ∙ blocks_more 4 l out (r * w) w (λ (i : ℕ). list_of (f i))
            ∙ ap (λ (k : ℕ). with_numerators l out k f) rows;
      }
    where
      rows : r * w + w ≡ (r + 1) * w
      rows = omega arith

  -- row r and those after it are as they were
  own : (c : ℕ) → Same b l (out + (r * w + c) * 4) 4
  own c = rest ws (out + (r * w + c) * 4) 4 (omega arith)

  pub own_is : (c : ℕ) → number_in b (out + (r * w + c) * 4) ≡ number_in l (out + (r * w + c) * 4)
  own_is c = number_same (own c)

  pub rows-room : out + w * w * 4 ≤ length l → out + w * w * 4 ≤ length b
  rows-room h = omega (arith, h, long ws)

-- ---- row r of w numbers
-- its places
module _ (out w r : ℕ) where
  pub row-place : (c : ℕ) → out + r * w * 4 + c * 4 ≡ out + (r * w + c) * 4
  row-place c = omega arith

  pub later-place : (i : ℕ) → out + (r * w + r) * 4 + i * 4 ≡ out + (r * w + (r + i)) * 4
  later-place i = omega arith

  diagonal-place : out + r * w * 4 + r * 4 ≡ out + (r * w + r) * 4
  diagonal-place = omega arith

  pub diagonal-room : r < w → out + (r * w + r) * 4 + (w - r) * 4 ≤ out + w * w * 4
  diagonal-room h = omega (arith, block_in_lem h w)

pub entry_place : (k r i : ℕ) → k + r * 4 + i * 4 ≡ k + (r + i) * 4
entry_place k r i = omega arith

module _ (b : List ℤ) (out w r : ℕ) (hr : r < w) (g : ℕ → Number) where
  -- written in two parts, before its diagonal and from there on
  pub two_parts : {o n : List ℤ} → o ≡ with_numerators b (out + r * w * 4) r g → n ≡ with_numerators o (out + (r * w + r) * 4) (w - r) (λ (i : ℕ). g (r + i)) → n ≡ with_numerators b (out + r * w * 4) w g
  two_parts {o} {n} p q =
      q
      ∙ (λ i. with_numerators (p i) (sym (diagonal-place out w r) i) (w - r) (λ (i : ℕ). g (r + i)))
      ∙ blocks_more 4 b (out + r * w * 4) r (w - r) (λ (c : ℕ). list_of (g c))
      ∙ ap (λ (k : ℕ). with_numerators b (out + r * w * 4) k g) all
    where
      all : r + (w - r) ≡ w
      all = omega arith

  -- written from its diagonal on: before it, what stands there is kept
  pub later_part : ((c : ℕ) → c < r → g c ≡ number_in b (out + (r * w + c) * 4)) → {n : List ℤ} → n ≡ with_numerators b (out + (r * w + r) * 4) (w - r) (λ (i : ℕ). g (r + i)) → n ≡ with_numerators b (out + r * w * 4) w g
  later_part e = two_parts (sym (numbers-there b (out + r * w * 4) r g (λ c h. e c h ∙ ap (number_in b) (sym (row-place out w r c)))))

-- ---- overlaps added
-- entry (r, c)
upper_is : (l : List ℤ) (out : ℕ) (m : List ℤ) (k w e r c : ℕ) (b : Bool) → c < w → leb r c ≡ b
    → let s = raise m k w e in upper_added l out m k w e (r * w + c) ≡ cond b (added l (out + (r * w + c) * 4) (raised_at s m (k + r * 4)) s m (k + c * 4)) (number_in l (out + (r * w + c) * 4))
upper_is l out m k w e r c b h q =
    (λ i. cond (leb (digits_div r h i) (digits_mod r h i)) (added l at (raised_at s m (k + digits_div r h i * 4)) s m (k + digits_mod r h i * 4)) (number_in l at))
    ∙ ap (λ (t : Bool). cond t (added l at (raised_at s m (k + r * 4)) s m (k + c * 4)) (number_in l at)) q
  where
    s : ℕ
    s = raise m k w e

    at : ℕ
    at = out + (r * w + c) * 4

module _ {l : List ℤ} {out : ℕ} {m : List ℤ} {k w e : ℕ} (p : Upper l out m k w e) {b : List ℤ} {r : ℕ} (hr : r < w) (ws : Rows l out w (upper_added l out m k w e) b r) {s : ℕ} (shift : s ≡ raise m k w e) where
  factor : (i : ℕ) → i < w → Raised m (k + i * 4) s
  factor i h = subst (Raised m (k + i * 4)) (sym shift) (raised_of p.lift i h)

  later_is : (i : ℕ) → number_in b (out + (r * w + r) * 4 + i * 4) ≡ number_in l (out + (r * w + (r + i)) * 4)
  later_is i = ap (number_in b) (later-place out w r i) ∙ own_is hr ws (r + i)

  pub row_asks : Row b (out + (r * w + r) * 4) m (k + r * 4) (k + r * 4) (w - r) s
  row_asks =
      record {
        room = omega (arith, diagonal-room out w r hr, rows-room hr ws p.block.room);
        scale = factor r hr;
        factors = λ c h. subst (λ (q : ℕ). Raised m q s) (sym (entry_place k r c)) (factor (r + c) (omega arith));
        sums = λ c h. subst (λ (z : Number). Within max_numerator z) (sym (later_is c)) (p.block.sums r (r + c) (omega arith) (omega arith));
      }

  pub add_more : {n : List ℤ} → n ≡ with_numerators b (out + (r * w + r) * 4) (w - r) (row_added b (out + (r * w + r) * 4) m (k + r * 4) (k + r * 4) s) → Rows l out w (upper_added l out m k w e) n (r + 1)
  add_more q =
      row_more hr ws (later_part b out w r hr (λ (c : ℕ). upper_added l out m k w e (r * w + c)) before
      (q ∙ blocks-same 4 b (out + (r * w + r) * 4) (w - r) _ _ (λ i h. ap list_of (sym (after i h)))))
    where
      before : (c : ℕ) → c < r → upper_added l out m k w e (r * w + c) ≡ number_in b (out + (r * w + c) * 4)
      before c h = upper_is l out m k w e r c false (omega arith) (lt-leb r c h) ∙ sym (own_is hr ws c)

      after : (i : ℕ) → i < w - r → upper_added l out m k w e (r * w + (r + i)) ≡ row_added b (out + (r * w + r) * 4) m (k + r * 4) (k + r * 4) s i
      after i h =
          upper_is l out m k w e r (r + i) true (omega arith) (le-leb r (r + i) (omega arith))
          ∙ sym (λ j. numbers.◌⊕◌ (later_is i j) (overlap (raised_at (shift j) m (k + r * 4)) (shift j) m (entry_place k r i j)))

-- ---- overlaps written
module _ (l : List ℤ) (out : ℕ) (m : List ℤ) (k w s r : ℕ) where
  abbrev x : Number
  x = raised_at s m (k + r * 4)

  below_is : (c : ℕ) (z : Bool) → c < r → is_zero x ≡ z → row_written l out m k w s r c ≡ cond z numbers.𝟘 (number_in l (out + (r * w + c) * 4))
  below_is c z h e =
      ap (λ (t : Bool). cond t (overlap x s m (k + c * 4)) (cond (is_zero x) numbers.𝟘 (number_in l (out + (r * w + c) * 4)))) (lt-leb r c h)
      ∙ ap (λ (t : Bool). cond t numbers.𝟘 (number_in l (out + (r * w + c) * 4))) e

  above_is : (c : ℕ) → r ≤ c → row_written l out m k w s r c ≡ overlap x s m (k + c * 4)
  above_is c h = ap (λ (t : Bool). cond t (overlap x s m (k + c * 4)) (cond (is_zero x) numbers.𝟘 (number_in l (out + (r * w + c) * 4)))) (le-leb r c h)

  -- if entry r is zero
  pub none_written : is_zero x ≡ true → (c : ℕ) → row_written l out m k w s r c ≡ numbers.𝟘
  none_written z c = go (leb r c)
    where
      go : (t : Bool) → cond t (overlap x s m (k + c * 4)) (cond (is_zero x) numbers.𝟘 (number_in l (out + (r * w + c) * 4))) ≡ numbers.𝟘
      go true = left-zero m s (k + c * 4) x z
      go false = ap (λ (t : Bool). cond t numbers.𝟘 (number_in l (out + (r * w + c) * 4))) z

  -- if it is not
  pub some_written : r < w → is_zero x ≡ false → {n : List ℤ} → n ≡ with_numerators l (out + (r * w + r) * 4) (w - r) (λ (c : ℕ). overlap x s m (k + r * 4 + c * 4)) → n ≡ with_numerators l (out + r * w * 4) w (row_written l out m k w s r)
  some_written hr z q =
      later_part l out w r hr (row_written l out m k w s r) (λ c h. below_is c false h z)
      (q ∙ blocks-same 4 l (out + (r * w + r) * 4) (w - r) _ _ (λ i h. ap list_of (ap (overlap x s m) (entry_place k r i) ∙ sym (above_is (r + i) (omega arith)))))

module _ {l : List ℤ} {out : ℕ} {m : List ℤ} {k w e : ℕ} (p : Fresh l out m k w e) {b : List ℤ} {r : ℕ} (hr : r < w) (ws : Rows l out w (upper_written l out m k w e) b r) {s : ℕ} (shift : s ≡ raise m k w e) where
  pub start_asks : Starting b out m k w r s
  start_asks = record {
    inside = hr;
    room = rows-room hr ws p.room;
    factors = λ i h. subst (Raised m (k + i * 4)) (sym shift) (raised_of p.lift i h);
  }

  pub start_more : {n : List ℤ} → n ≡ with_numerators b (out + r * w * 4) w (row_written b out m k w s r) → Rows l out w (upper_written l out m k w e) n (r + 1)
  start_more q = row_more hr ws (q ∙ blocks-same 4 b (out + r * w * 4) w _ _ (λ c h. ap list_of (same c h)))
    where
      same : (c : ℕ) → c < w → row_written b out m k w s r c ≡ upper_written l out m k w e (r * w + c)
      same c h =
          (λ i. let x = raised_at (shift i) m (k + r * 4) in cond (leb r c) (overlap x (shift i) m (k + c * 4)) (cond (is_zero x) numbers.𝟘 (own_is hr ws c i)))
          ∙ sym (λ i. row_written l out m k w (raise m k w e) (digits_div r h i) (digits_mod r h i))
