-- The blocks of a list of branches can be written as a channel: their stores are different numbers below 2^m, and their numerators are in range at the exponent that a block shares.
use mathlib.Core.Path.{◌≡◌, refl, sym, ap, ◌∙◌, subst}
use mathlib.Core.Bool.{true, false, ◌&&◌, true≢false}
use mathlib.Core.List.{List, [], ◌∷◌}
use Prim.Native.Nat.{ℕ, zero, suc, ◌*◌, ◌-◌, ◌/◌, ◌%◌, ◌^◌, ◌<◌, ◌≤◌}
use native.Mathlib.Nat.{mod-lt, div-lt_iff_lt-mul, mul-le-mul}
use native.Mathlib.Omega.{arith}
use lib.Pow.{pow_pos}
use lib.ListN.{length, get_or}
use lib.IntN.{pos}
use borrow.Author.Tests.{le-leb}
use Rattle.algebra.specs.Lists.{All}
use Rattle.algebra.specs.Words.{from_bits}
use Rattle.algebra.proofs.Bits.{bits_below}
use Rattle.algebra.proofs.Lists.{all_get_d}
use Rattle.algebra.proofs.Tests.{and_split, all-by, exhaust, holds-true}
use Rattle.algebra.proofs.Totals.{sub_whole, sub_filter}
use Rattle.exact.specs.Exact.{Exact, in_range, is_lowest, max_numerator, max_exponent}
use Rattle.exact.specs.Inner.Sizes.{Within, Room, room_exponent}
use Rattle.exact.proofs.Align.{scaled_is}
use Rattle.exact.proofs.Sizes.{of-within}
use Rattle.gate.specs.Operators.{same_bits}
use Rattle.gate.proofs.Bits.{Word, same_refl}
use Rattle.kraus.specs.Branch.{Store, Branch}
use Rattle.kraus.specs.Blocks.{alive, survivors, stores}
use Rattle.kraus.proofs.Stores.{Distinct, stores-distinct}
use Rattle.kraus.proofs.Limits.{Fitting, Enough, kraus_exponent, block-fits}
use Rattle.store.specs.Store.{bits}
use Rattle.channel.specs.Shared.{shared_exponent, shared, shared_fits}
use Rattle.channel.specs.Layout.{channels, side, entries}
use Rattle.channel.specs.WellFormed.{is_dim}
use Rattle.channel.specs.Claims.{Writable}
use Rattle.channel.proofs.Canonical.{full_suits}
use Rattle.collect.specs.Delivered.{block_no}
use Rattle.store.proofs.Bytes.{bits-word}

-- ---- a store as a number
from-word : (m : ℕ) (τ : Store) → Word m τ → from_bits τ < 2 ^ m
from-word m τ (e, h) = subst (λ (k : ℕ). from_bits τ < 2 ^ k) e (bits_below τ h)

-- ---- different places have different stores
apart : (ss : List Store) → Distinct ss → (i j : ℕ) → i < length ss → j < length ss → get_or ss i [] ≡ get_or ss j [] → i ≡ j
apart [] h i j l m e = absurd (omega arith)
apart (σ ∷ ss) h zero zero l m e = refl
apart (σ ∷ ss) h zero (suc j) l m e =
    absurd (true≢false (sym (ap (same_bits σ) (sym e) ∙ same_refl σ) ∙ all_get_d (λ (τ : Store). same_bits σ τ ≡ false) ss h.0 j (omega arith) []))
apart (σ ∷ ss) h (suc i) zero l m e =
    absurd (true≢false (sym (ap (same_bits σ) e ∙ same_refl σ) ∙ all_get_d (λ (τ : Store). same_bits σ τ ≡ false) ss h.0 i (omega arith) []))
apart (σ ∷ ss) h (suc i) (suc j) l m e = ap suc (apart ss h.1 i j (omega arith) (omega arith) e)

-- ---- in range at the shared exponent
exponent_small : (n : ℕ) (x : ℕ → Exact) (e : ℕ) → ((k : ℕ) → k < n → (x k).exp ≤ e) → shared_exponent n x ≤ e
exponent_small zero x e h = omega arith
exponent_small (suc n) x e h = omega (arith, exponent_small n x e (λ k p. h k (omega arith)), h n (omega arith))

pub block-fits-shared : (n : ℕ) (x : ℕ → Exact) → ((k : ℕ) → k < n → (t : ℕ) → t ≤ room_exponent → Room t (x k)) → shared_fits n (shared n x) ≡ true
block-fits-shared n x h =
    λ i. le-leb e max_exponent (omega (arith, small)) i
    && all-by n _ (λ k p. of-within max_numerator ((shared n x).num k) (subst (Within max_numerator) (scaled_is (x k).num (e - (x k).exp)) (h k p e small).size)) i
  where
    e : ℕ
    e = shared_exponent n x

    small : e ≤ room_exponent
    small = exponent_small n x room_exponent (λ k p. (h k p 0 (omega arith)).exponent)

blocks-writable : (d m : ℕ) (bs : List Branch) → is_dim (pos d) ≡ true → m ≤ 64 → All (Word m) (stores bs)
    → ((j k : ℕ) → j < length (stores bs) → k < side d * side d → Fitting room_exponent ((block_no d bs j).entry k)) → Writable (channels d) d m (length (stores bs)) (block_no d bs)
blocks-writable d m bs dim few h fine = record {
  dim = dim;
  few = few;
  small = λ j l. from-word m (at j) (word j l);
  different = λ i j k l e. apart (stores bs) (stores-distinct bs) i j k l (sym (bits-word m (at i) (word i k)) ∙ ap (bits m) e ∙ bits-word m (at j) (word j l));
  lowest = λ j l k p. let x = (block_no d bs j).entry k in (and_split (in_range x) (is_lowest x) (fine j k l p).well_formed_lem).1;
  fits = λ j l. block-fits-shared (entries (channels d)) (block_no d bs j).entry (λ k p. (fine j k l p).room);
  suits = λ j l. full_suits (side d) (block_no d bs j).entry;
}
  where
    at : ℕ → Store
    at j = get_or (stores bs) j []

    word : (j : ℕ) → j < length (stores bs) → Word m (get_or (stores bs) j [])
    word j l = all_get_d (Word m) (stores bs) h j l []

-- ---- the surviving branches of any that leave room for all sums
module _ {n m : ℕ} {all : List Branch} (small : n ≤ 4) (few : m ≤ 64) (enough : Enough kraus_exponent n all) (words : All (Word m) (stores (survivors all))) where
  abbrev d : ℕ
  d = 2 ^ n

  abbrev bs : List Branch
  bs = survivors all

  some-row : 0 < side d
  some-row = mul-le-mul (pow_pos n) (pow_pos n)

  pub survivors-writable : Writable (channels (2 ^ n)) (2 ^ n) m (length (stores (survivors all))) (block_no (2 ^ n) (survivors all))
  survivors-writable = blocks-writable d m bs (holds-true (exhaust (λ (k : ℕ). is_dim (pos (2 ^ k))) 5 tt n (omega (arith, small)))) few words
      (λ j k p q. block-fits enough (sub_filter alive (sub_whole all)) (get_or (stores bs) j []) (k / side d) (k % side d) ((div-lt_iff_lt-mul some-row).1 q) (mod-lt k some-row))
