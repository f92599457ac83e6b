-- Sizes and places of what a form keeps, and the entries that are read there.
use mathlib.Core.Path.{◌≡◌, refl, sym, ap, ◌∙◌, subst}
use mathlib.Core.Bool.{Bool, true, false, cond}
use mathlib.Core.List.{List}
use Prim.Native.Nat.{ℕ, ◌+◌, ◌*◌, ◌-◌, ◌<◌, ◌≤◌}
use native.Mathlib.Nat.{not-suc-le-zero, add_assoc}
use native.Mathlib.Omega.{arith}
use lib.Arith.{digits_div, digits_mod}
use lib.Dec.{leb}
use lib.ListN.{length}
use lib.IntN.{ℤ}
use borrow.Author.Tests.{le-leb, lt-leb}
use Rattle.algebra.specs.Quadratic.{conjugate}
use Rattle.algebra.specs.Words.{up_to}
use Rattle.algebra.proofs.Tests.{and_split, all-at}
use Rattle.exact.specs.Exact.{Number, root2, within, max_numerator, max_exponent}
use Rattle.exact.specs.Inner.Sizes.{Within}
use Rattle.exact.proofs.Sizes.{within_of}
use Rattle.channel.specs.Shared.{shared_fits, shared_ok}
use Rattle.channel.specs.Layout.{Form, record_head, exponent_place, entry_size, entry_words, entry_from, entries, row_start, from, block_size, kept, word, exp_at, numbers_at, shared_at}
use Rattle.channel.proofs.Places.{entry-least}
use Rattle.channel.proofs.Restore.{by_place, place_inside, cell_below}
use Rattle.channel.specs.WellFormed.{block_ok}
use Rattle.channel.specs.Inner.Kept.{Kept}

pub entry_long : (b : Bool) (z : Number) → length (entry_words b z) ≡ entry_size b
entry_long true z = refl
entry_long false z = refl

-- ---- an entry that is kept
module _ (F : Form) where
  abbrev w : ℕ
  w = F.side

  -- where it begins
  abbrev pub place_of : ℕ → ℕ → ℕ
  place_of r c = (row_start F r + (c - from F r)) * entry_size F.plain

  pub kept-inside : {r c : ℕ} → Kept F r c → (q : ℕ) → q ≡ place_of r c → q + entry_size F.plain ≤ block_size F
  kept-inside {r} {c} k q e =
      subst (λ (m : ℕ). m + entry_size F.plain ≤ block_size F) (sym e)
      (by (place_of r c) (entry_size F.plain) (block_size F) (entry-least F.plain) (place_inside F r c (entry_size F.plain - 1) k.row k.col k.after (last (entry_size F.plain) (entry-least F.plain))))
    where
      last : (s : ℕ) → 2 ≤ s → s - 1 < s
      last s h = omega arith

      by : (p s b : ℕ) → 2 ≤ s → p + (s - 1) < b → p + s ≤ b
      by p s b h u = omega arith

  -- what is not kept lies below the diagonal
  pub lost : (r c : ℕ) → c < from F r → from F c ≤ r
  lost r c h = by F.half h
    where
      by : (b : Bool) → c < cond b r 0 → cond b c 0 ≤ r
      by true u = omega arith
      by false u = absurd (not-suc-le-zero u)

  module _ (l : List ℤ) (at : ℕ) where
    abbrev v : ℕ → ℤ
    v i = word l (at + record_head + i)

    choose : (r c : ℕ) → c < w → numbers_at F l at (r * w + c) ≡ cond (leb (from F r) c) (kept F v r c) (conjugate root2 (kept F v c r))
    choose r c q = by_place F v (r * w + c) ∙ λ i. cond (leb (from F (digits_div r q i)) (digits_mod r q i)) (kept F v (digits_div r q i) (digits_mod r q i)) (conjugate root2 (kept F v (digits_mod r q i) (digits_div r q i)))

    pub number-kept : (r c : ℕ) → c < w → from F r ≤ c → numbers_at F l at (r * w + c) ≡ kept F v r c
    number-kept r c q h = choose r c q ∙ ap (λ (b : Bool). cond b (kept F v r c) (conjugate root2 (kept F v c r))) (le-leb (from F r) c h)

    number_lost : (r c : ℕ) → c < w → c < from F r → numbers_at F l at (r * w + c) ≡ conjugate root2 (kept F v c r)
    number_lost r c q h = choose r c q ∙ ap (λ (b : Bool). cond b (kept F v r c) (conjugate root2 (kept F v c r))) (lt-leb (from F r) c h)

    -- what is not kept is the conjugate of its mirror
    pub mirrored : (r c : ℕ) → r < w → c < w → c < from F r → conjugate root2 (numbers_at F l at (c * w + r)) ≡ numbers_at F l at (r * w + c)
    mirrored r c p q h = ap (conjugate root2) (number-kept c r p (lost r c h)) ∙ sym (number_lost r c q h)

    pub read_is : (r c q : ℕ) → q ≡ place_of r c → entry_from F.plain (λ (i : ℕ). word l (at + record_head + q + i)) ≡ kept F v r c
    read_is r c q e = λ k. entry_from F.plain (λ (i : ℕ). word l (along i k))
      where
        along : (i : ℕ) → at + record_head + q + i ≡ at + record_head + (place_of r c + i)
        along i = add_assoc (at + record_head) q i ∙ ap (λ (p : ℕ). at + record_head + (p + i)) e

    -- the numerators are in range
    pub in_range_lem : block_ok F l at ≡ true → (r c : ℕ) → r < w → c < w → Within max_numerator (numbers_at F l at (r * w + c))
    in_range_lem g r c p q =
        let s = (and_split (up_to max_exponent (word l (at + exponent_place))) _ g).1 in
        let t = (and_split (shared_ok (entries F) (shared_at F l at)) _ s).0 in
        let u = (and_split (shared_fits (entries F) (shared_at F l at)) _ t).0 in
        within_of max_numerator _ (all-at (entries F) (λ (k : ℕ). within max_numerator (numbers_at F l at k)) (and_split (leb (exp_at l at) max_exponent) _ u).1 (r * w + c) (cell_below F r c p q))
