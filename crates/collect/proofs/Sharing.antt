-- From the upper half of a block to the words of its shared form.
use mathlib.Core.Path.{◌≡◌, refl, sym, ap, ◌∙◌}
use mathlib.Core.Bool.{Bool, true, false, cond}
use mathlib.Core.List.{List, ◌∷◌}
use mathlib.Core.Logic.{inl}
use Prim.Native.Nat.{ℕ, zero, suc, ◌+◌, ◌*◌, ◌/◌, ◌%◌, ◌≤◌, ◌<◌}
use native.Mathlib.Nat.{le_refl, div-add-mod'}
use native.Mathlib.Omega.{arith}
use lib.Dec.{leb}
use lib.ListN.{length, set}
use lib.Seq.{sets}
use lib.IntN.{ℤ}
use borrow.Author.Tests.{leb-true, leb-false}
use Rattle.algebra.specs.Quadratic.{conjugate}
use Rattle.algebra.specs.Words.{joined}
use Rattle.algebra.proofs.Blocks.{blocks-same, blocks_over, blocks-joined}
use Rattle.algebra.proofs.Squares.{row_lt, column_lt}
use Rattle.exact.specs.Exact.{Number, root2, list_of, Exact, exact, lowest, conj}
use Rattle.exact.proofs.Exact.{exacts, conj-plus, conj-by, conj-conj, conj-lowest, conj-𝟘}
use Rattle.channel.specs.Forms.{Alike}
use Rattle.channel.specs.Layout.{channels, block_words}
use Rattle.channel.proofs.Shared.{shared_same}
use Rattle.channel.proofs.Full.{full-words}
use Rattle.share.specs.Share.{number_in, with_numerators}
use Rattle.hermitian.specs.Inner.Upper.{mirrored_at, mirrored_from}
use Rattle.hermitian.proofs.Mirrored.{mirror_is}
use Rattle.rows.proofs.Mixed.{set_past}
use Rattle.collect.specs.Inner.Bank.{store_of, entry, has, overlaps, largest, numerators, shared_of, Bank}
use Rattle.collect.proofs.Numerators.{entry_is}
use Rattle.collect.proofs.Summing.{Summed, upper_is}

-- ---- blocks are Hermitian
sum_mirror : (a x y : Exact) → conj (exact.◌⊕◌ a (exact.◌⊗◌ x (conj y))) ≡ exact.◌⊕◌ (conj a) (exact.◌⊗◌ y (conj x))
sum_mirror a x y = conj-plus a (exact.◌⊗◌ x (conj y)) ∙ ap (exact.◌⊕◌ (conj a)) (conj-by x (conj y) ∙ ap (exact.◌⊗◌ (conj x)) (conj-conj y) ∙ exacts.mul_comm (conj x) y)

overlaps_mirror : (l : List ℤ) (at d n s r c : ℕ) → conj (overlaps l at d n s c r) ≡ overlaps l at d n s r c
unfolding overlaps
overlaps_mirror l at d zero s r c = conj-𝟘
overlaps_mirror l at d (suc n) s r c = go (has l at d s n) (overlaps_mirror l at d n s r c)
  where
    more : ℕ → ℕ → Exact → Exact
    more i j x = exact.◌⊕◌ x (exact.◌⊗◌ (entry l at d n i) (conj (entry l at d n j)))

    go : (t : Bool) → conj (overlaps l at d n s c r) ≡ overlaps l at d n s r c → conj (cond t (more c r (overlaps l at d n s c r)) (overlaps l at d n s c r)) ≡ cond t (more r c (overlaps l at d n s r c)) (overlaps l at d n s r c)
    go true h = sum_mirror (overlaps l at d n s c r) (entry l at d n c) (entry l at d n r) ∙ ap (more r c) h
    go false h = h

-- ---- a word written before others that are written
pub block_written : (m : List ℤ) (to d : ℕ) (f : ℕ → Number) (x : ℤ) → set (with_numerators m (to + 1) (d * d * (d * d)) f) to x ≡ sets m to (x ∷ block_words (channels d) f)
block_written m to d f x =
    ap (λ (q : List ℤ). set q to x) (blocks-joined 4 (λ (k : ℕ). list_of (f k)) (λ i. refl) m (to + 1) (d * d * (d * d)))
    ∙ set_past (joined (d * d * (d * d)) (λ (k : ℕ). list_of (f k))) m (to + 1) to x (inl (omega arith))
    ∙ (λ i. sets (set m to x) (first i) (sym (full-words (d * d) f) i))
  where
    first : to + 1 ≡ suc to
    first = omega arith

-- ---- the sums of a bank's branches, mirrored and shared
module _ {m : List ℤ} {out : ℕ} {l : List ℤ} {at d n b : ℕ} (bank : Bank l at d n) (room : out + d * d * (d * d) * 4 ≤ length m) {q : List ℤ} (ws : Summed m out l at d (largest l at d n) b q n) where
  abbrev size : ℕ
  size = d * d * (d * d)

  abbrev e : ℕ
  e = largest l at d n

  abbrev s : ℕ
  s = store_of l at d b

  mirrored_is : (k : ℕ) → k < size → lowest (mirrored_at q out (d * d) k) (e + e) ≡ overlaps l at d n s (k / (d * d)) (k % (d * d))
  mirrored_is k h =
      ap (λ (i : ℕ). lowest (mirrored_at q out (d * d) i) (e + e)) (sym (div-add-mod' k (d * d)))
      ∙ ap (λ (z : Number). lowest z (e + e)) (mirror_is q out (d * d) r c (leb r c) hc refl) ∙ go (leb r c) refl
    where
      r : ℕ
      r = k / (d * d)

      c : ℕ
      c = k % (d * d)

      hr : r < d * d
      hr = row_lt k (d * d) h

      hc : c < d * d
      hc = column_lt k (d * d) h

      go : (t : Bool) → leb r c ≡ t → lowest (cond t (number_in q (out + (r * (d * d) + c) * 4)) (conjugate root2 (number_in q (out + (c * (d * d) + r) * 4)))) (e + e) ≡ overlaps l at d n s r c
      go true p = ap (λ (z : Number). lowest z (e + e)) (upper_is ws room r c (leb-true r c p) hc) ∙ entry_is bank s r c n (le_refl n)
      go false p =
          let below : c ≤ r = let f = leb-false r c p in omega arith in
          ap (λ (z : Number). lowest (conjugate root2 z) (e + e)) (upper_is ws room c r below hr)
          ∙ sym (conj-lowest (numerators l at d e n s c r) (e + e))
          ∙ ap conj (entry_is bank s c r n (le_refl n))
          ∙ overlaps_mirror l at d n s r c

  pub alike : Alike (d * d * (d * d)) (mirrored_from q out (d * d) (largest l at d n + largest l at d n)) (shared_of l at d n (store_of l at d b))
  alike = shared_same size _ _ mirrored_is

  pub numerators_are : {c : List ℤ} → c ≡ with_numerators q out (d * d * (d * d)) (mirrored_from q out (d * d) (largest l at d n + largest l at d n)).num → c ≡ with_numerators m out (d * d * (d * d)) (shared_of l at d n (store_of l at d b)).num
  numerators_are {c} f =
      f
      ∙ blocks-same 4 q out size _ _ (λ k h. ap list_of (alike.num k h))
      ∙ ap (λ (p : List ℤ). with_numerators p out size (shared_of l at d n s).num) ws.is
      ∙ blocks_over 4 m out size _ _ (λ i. refl) (λ i. refl) room
