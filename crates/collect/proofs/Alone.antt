-- The block of a bank of one branch: the products of its entries over its own exponent.
use mathlib.Core.Path.{◌≡◌, sym, ap, ◌∙◌}
use mathlib.Core.Bool.{true}
use mathlib.Core.List.{List}
use Prim.Native.Nat.{ℕ, ◌+◌, ◌*◌, ◌-◌, ◌/◌, ◌%◌, ◌^◌, ◌≤◌, ◌<◌}
use native.Mathlib.Nat.{le_refl}
use native.Mathlib.Omega.{arith}
use lib.Pow.{pow_mono}
use lib.ListN.{get_or}
use lib.IntN.{ℤ, pos}
use Rattle.algebra.specs.Quadratic.{conjugate}
use Rattle.algebra.proofs.Signed.{word_is}
use Rattle.exact.specs.Exact.{Number, numbers, root2, lowest, narrow_exponent, narrow_numerator}
use Rattle.exact.proofs.Align.{widen, scaled-none}
use Rattle.channel.specs.Forms.{Alike}
use Rattle.channel.proofs.Shared.{shared_same}
use Rattle.channel.proofs.Words.{square_small}
use Rattle.share.specs.Share.{number_in}
use Rattle.rows.specs.Inner.Rows.{exponent_in}
use Rattle.repeats.specs.Inner.Repeats.{products_shared, Narrow}
use Rattle.collect.specs.Inner.Bank.{place, store_of, starts, largest, raised, numerators, shared_of, Bank}
use Rattle.collect.proofs.Numerators.{entry_is}
use Rattle.collect.proofs.Summing.{first-summed}

module _ {l : List ℤ} {at d n b : ℕ} (bank : Bank l at d n) (hb : b < n) where
  -- its entries
  pub narrow_entries : Narrow l (place at d b) (d * d)
  narrow_entries =
      let p = bank.entries b hb in
      let e = exponent_in l (place at d b) (d * d) in
      let small : e ≤ narrow_exponent = (word_is narrow_exponent (get_or l (place at d b + d * d * 4) (pos 0)) p.exponent).1 in
      record {
        few = square_small d bank.dim;
        room = omega (arith, p.room);
        sizes = λ i h. widen (2 ^ e) narrow_numerator (number_in l (place at d b + i * 4)) (pow_mono small) (p.sizes i h);
      }

  module _ (one : n ≡ 1) (first : starts l at d b ≡ true) where
    abbrev e : ℕ
    e = largest l at d n

    own-exponent : largest l at d n ≡ exponent_in l (place at d b) (d * d)
    own-exponent =
        let same : 0 ≡ b = omega arith in
        ap (largest l at d) one ∙ omega arith ∙ ap (λ (j : ℕ). exponent_in l (place at d j) (d * d)) same

    raised-own : (i : ℕ) → raised l at d (largest l at d n) b i ≡ number_in l (place at d b + i * 4)
    raised-own i = scaled-none (number_in l (place at d b + i * 4)) (largest l at d n - exponent_in l (place at d b) (d * d)) (omega (arith, own-exponent))

    product-is : (r c : ℕ) → numbers.◌⊗◌ (number_in l (place at d b + r * 4)) (conjugate root2 (number_in l (place at d b + c * 4))) ≡ numerators l at d (largest l at d n) n (store_of l at d b) r c
    product-is r c =
        let more : b + 1 ≡ n = omega arith in
        sym (λ i. numbers.◌⊗◌ (raised-own r i) (conjugate root2 (raised-own c i)))
        ∙ sym (first-summed l at d (largest l at d n) b first r c)
        ∙ ap (λ (j : ℕ). numerators l at d (largest l at d n) j (store_of l at d b) r c) more

    pub products-alike : Alike (d * d * (d * d)) (products_shared l (place at d b) (d * d) (largest l at d n + largest l at d n)) (shared_of l at d n (store_of l at d b))
    products-alike =
        shared_same (d * d * (d * d)) _ _ (λ i h.
        ap (λ (z : Number). lowest z (largest l at d n + largest l at d n)) (product-is (i / (d * d)) (i % (d * d))) ∙ entry_is bank (store_of l at d b) (i / (d * d)) (i % (d * d)) n (le_refl n))
