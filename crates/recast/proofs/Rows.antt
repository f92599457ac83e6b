-- Rows of a block written one after another.
use mathlib.Core.Path.{◌≡◌, refl, sym, ap, ◌∙◌, subst}
use mathlib.Core.Bool.{Bool, true, false, cond}
use mathlib.Core.List.{List}
use Prim.Native.Nat.{ℕ, zero, suc, ◌+◌, ◌*◌, ◌-◌, ◌<◌, ◌≤◌, zero-le}
use native.Mathlib.Nat.{suc-mul, zero-mul}
use native.Mathlib.Numerals.{add-one}
use native.Mathlib.Omega.{arith}
use lib.ListN.{length, length-append}
use lib.Seq.{sets, length-sets}
use lib.IntN.{ℤ}
use Rattle.algebra.specs.Words.{blocks, joined}
use Rattle.algebra.proofs.Blocks.{length-joined, blocks-joined, append_block}
use Rattle.exact.specs.Exact.{Number}
use Rattle.channel.specs.Layout.{Form, entry_size, entry_words, from, row_start, row_words, block_size}
use Rattle.channel.proofs.Restore.{row_zero, row_next}
use Rattle.channel.specs.Inner.Kept.{Kept}
use Rattle.channel.proofs.Kept.{entry_long, kept-inside}

module _ (F : Form) where
  abbrev w : ℕ
  w = F.side

  abbrev s : ℕ
  s = entry_size F.plain

  -- the words of row r
  row_room : (r : ℕ) → r < w → row_start F r * s + (w - from F r) * s ≤ block_size F
  row_room r h = by (row_start F r) (w - 1 - from F r) s (block_size F) (sym split) (kept-inside F k _ refl)
    where
      below : (b : Bool) → cond b r 0 ≤ w - 1
      below true = omega arith
      below false = omega arith

      k : Kept F r (w - 1)
      k = record { row = h; col = omega arith; after = below F.half }

      split : w - from F r ≡ suc (w - 1 - from F r)
      split = let q = below F.half in omega arith

      by : {m : ℕ} (a k t b : ℕ) → suc k ≡ m → (a + k) * t + t ≤ b → a * t + m * t ≤ b
      by a k t b e u = subst (λ (m : ℕ). a * t + m * t ≤ b) e (omega (arith, suc-mul k t))

  -- room for row r, where there is room for the block
  pub row-fits : (v out r R S k m : ℕ) → w ≡ v → r < w → R ≡ row_start F r → S ≡ s → out + block_size F ≤ k → m ≡ k → out + R * S + (v - from F r) * s ≤ m
  row-fits v out r R S k m e h p q u t =
      subst (λ (x : ℕ). out + x + (v - from F r) * s ≤ m) (sym (λ i. p i * q i))
      (by (row_start F r * s) ((v - from F r) * s) (block_size F) (subst (λ (x : ℕ). row_start F r * s + (x - from F r) * s ≤ block_size F) e (row_room r h)) u)
    where
      by : (a b n : ℕ) → a + b ≤ n → out + n ≤ k → out + a + b ≤ m
      by a b n x y = omega arith

  module _ (z : ℕ → Number) where
    length-row : (r : ℕ) → length (row_words F z r) ≡ (w - from F r) * s
    length-row r = length-joined s (λ (j : ℕ). entry_words F.plain (z (r * w + (from F r + j)))) (λ j. entry_long F.plain _) (w - from F r)

    length-rows : (n : ℕ) → length (joined n (row_words F z)) ≡ row_start F n * s
    unfolding joined
    length-rows zero = sym (ap (λ (k : ℕ). k * s) (row_zero F) ∙ zero-mul s)
    length-rows (suc n) = length-append (joined n (row_words F z)) (row_words F z n) ∙ (λ i. length-rows n i + length-row n i) ∙ by (row_start F n) (w - from F n) s ∙ ap (λ (k : ℕ). k * s) (sym (row_next F n))
      where
        by : (a b c : ℕ) → a * c + b * c ≡ (a + b) * c
        by a b c = omega arith

    -- b is l with the words of r rows from `out` on
    pub record Rows (l : List ℤ) (out : ℕ) (b : List ℤ) (r : ℕ) : Type 0 where
      pub count : r ≤ w
      pub is : b ≡ sets l out (joined r (row_words F z))

    pub rows_begin : (l : List ℤ) (out : ℕ) → Rows l out l 0
    unfolding joined
    rows_begin l out = record { count = zero-le; is = refl }

    pub rows_again : {l : List ℤ} {out : ℕ} {b : List ℤ} {r : ℕ} → Rows l out b r → r < w → {c : List ℤ}
        → c ≡ blocks s b (out + row_start F r * s) (w - from F r) (λ (j : ℕ). entry_words F.plain (z (r * w + (from F r + j)))) → Rows l out c (r + 1)
    unfolding joined
    rows_again {l} {out} {b} {r} g h {c} e = record {
      count = omega arith;
      is = append_block l (joined r (row_words F z)) (row_words F z r) out (row_start F r * s) (length-rows r) g.is
          (e ∙ blocks-joined s (λ (j : ℕ). entry_words F.plain (z (r * w + (from F r + j)))) (λ j. entry_long F.plain _) b (out + row_start F r * s) (w - from F r))
          ∙ ap (λ (k : ℕ). sets l out (joined k (row_words F z))) (sym (add-one r));
    }

    pub rows_long : {l : List ℤ} {out : ℕ} {b : List ℤ} {r : ℕ} → Rows l out b r → length b ≡ length l
    rows_long {l} {out} {r = r} g = ap length g.is ∙ length-sets l out (joined r (row_words F z))
