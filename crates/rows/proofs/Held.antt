-- Numbers that share an exponent, in words: their words are read back as the numbers, and as factors; written numerators and the exponent behind them are those words.
use mathlib.Core.Path.{◌≡◌, refl, sym, ap, ◌∙◌, subst}
use mathlib.Core.List.{List, [], ◌∷◌, ◌++◌}
use Prim.Native.Nat.{ℕ, ◌+◌, ◌*◌, ◌-◌, ◌^◌, ◌≤◌, ◌<◌}
use native.Mathlib.Nat.{add-zero, add_assoc, one-mul, le_of_eq}
use native.Mathlib.Omega.{arith}
use lib.ListN.{length, get_or, set, length-append, get_or-append}
use lib.Seq.{sets, get_or-append-add}
use lib.IntN.{ℤ, pos, nat_abs}
use borrow.Author.Tests.{le-leb}
use Rattle.algebra.specs.Words.{joined, up_to}
use Rattle.algebra.proofs.Blocks.{block_in_lem, length-joined, blocks-joined, joined_at, joined_same, append_block}
use Rattle.exact.specs.Exact.{Exact, Number, list_of, lowest, narrow_exponent}
use Rattle.exact.specs.Inner.Sizes.{Within, Coords}
use Rattle.exact.proofs.Align.{scaled_is, widen, raised}
use Rattle.channel.specs.Shared.{shared}
use Rattle.channel.specs.Claims.{Lowest}
use Rattle.channel.proofs.Shared.{exp_le, exponent-up, gives_back, shared_same}
use Rattle.share.specs.Share.{number_in, with_numerators}
use Rattle.share.proofs.Numbers.{number_is}
use Rattle.rows.specs.Inner.Rows.{held_words, exponent_in, held_in, Factors}

-- the numerators alone
abbrev numerator : (ℕ → Exact) → ℕ → ℕ → Number
numerator x n = (shared n x).num

abbrev numerators : (n : ℕ) → (ℕ → Exact) → List ℤ
numerators n x = joined n (λ (k : ℕ). list_of (numerator x n k))

length-numerators : (n : ℕ) (x : ℕ → Exact) → length (numerators n x) ≡ n * 4
length-numerators n x = length-joined 4 (λ (k : ℕ). list_of (numerator x n k)) (λ k. refl) n

pub length_shared : (n : ℕ) (x : ℕ → Exact) → length (held_words n x) ≡ n * 4 + 1
length_shared n x = length-append (numerators n x) (pos (shared n x).exp ∷ []) ∙ ap (λ (k : ℕ). k + 1) (length-numerators n x)

-- equal numbers have equal words
pub words_same : (n : ℕ) (x y : ℕ → Exact) → ((k : ℕ) → k < n → x k ≡ y k) → held_words n x ≡ held_words n y
words_same n x y h =
    let a = shared_same n x y h in
    λ i. joined_same n (λ (k : ℕ). list_of (numerator x n k)) (λ (k : ℕ). list_of (numerator y n k)) (λ k l. ap list_of (a.num k l)) i ++ (pos (a.exp i) ∷ [])

-- ---- the words of n numbers in lowest form stand in l from `at` on
module _ (l : List ℤ) (at n : ℕ) (x : ℕ → Exact) (words : (k : ℕ) → k < n * 4 + 1 → get_or l (at + k) (pos 0) ≡ get_or (held_words n x) k (pos 0)) where
  numerator-read : (i : ℕ) → i < n → number_in l (at + i * 4) ≡ numerator x n i
  numerator-read i h = number_is l (at + i * 4) (numerator x n i) by
    where
      by : (k : ℕ) → k < 4 → get_or l (at + i * 4 + k) (pos 0) ≡ get_or (list_of (numerator x n i)) k (pos 0)
      by k p =
          let q = block_in_lem h 4 in
          ap (λ (w : ℕ). get_or l w (pos 0)) (add_assoc at (i * 4) k)
          ∙ words (i * 4 + k) (omega arith)
          ∙ get_or-append (numerators n x) (pos (shared n x).exp ∷ []) (pos 0) (i * 4 + k) (omega (arith, length-numerators n x))
          ∙ joined_at 4 (λ (k : ℕ). list_of (numerator x n k)) (λ k. refl) n i k h p

  exponent-word : get_or l (at + n * 4) (pos 0) ≡ pos (shared n x).exp
  exponent-word =
      let e : n * 4 ≡ length (numerators n x) + 0 = sym (add-zero (length (numerators n x)) ∙ length-numerators n x) in
      words (n * 4) (omega arith)
      ∙ ap (λ (w : ℕ). get_or (held_words n x) w (pos 0)) e
      ∙ get_or-append-add (numerators n x) (pos (shared n x).exp ∷ []) 0 (pos 0)

  -- they are read back
  pub held_is : Lowest n x → (i : ℕ) → i < n → held_in l at n i ≡ x i
  held_is low i h = (λ j. lowest (numerator-read i h j) (nat_abs (exponent-word j))) ∙ gives_back n x low i h

  -- they are factors, if each number is one
  pub held_factors : ((i : ℕ) → i < n → Coords 1 narrow_exponent (x i)) → at + n * 4 + 1 ≤ length l → Factors l at n
  held_factors small room = record {
    room = room;
    exponent = ap (up_to narrow_exponent) exponent-word ∙ le-leb _ _ (exponent-up n x narrow_exponent (λ i h. (small i h).exponent));
    sizes = λ i h. by i h;
  }
    where
      by : (i : ℕ) → i < n → Within (2 ^ exponent_in l at n) (number_in l (at + i * 4))
      by i h =
          let e = (shared n x).exp in
          let w = raised 1 (x i).exp e (x i).num (exp_le n x i h) (small i h).size in
          let v = subst (Within (1 * 2 ^ e)) (scaled_is (x i).num (e - (x i).exp) ∙ sym (numerator-read i h)) w in
          subst (λ (k : ℕ). Within (2 ^ k) (number_in l (at + i * 4))) (sym (ap nat_abs exponent-word)) (widen (1 * 2 ^ e) (2 ^ e) (number_in l (at + i * 4)) (le_of_eq (one-mul (2 ^ e))) v)

-- ---- numerators written, and then their exponent
pub shared_sets : (l : List ℤ) (at n : ℕ) (x : ℕ → Exact) {m b : List ℤ} → m ≡ with_numerators l at n (shared n x).num → b ≡ set m (at + n * 4) (pos (shared n x).exp) → b ≡ sets l at (held_words n x)
shared_sets l at n x p q =
    append_block l (numerators n x) (pos (shared n x).exp ∷ []) at (n * 4) (length-numerators n x) (p ∙ blocks-joined 4 (λ (k : ℕ). list_of (numerator x n k)) (λ k. refl) l at n) q
