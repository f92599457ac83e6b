-- Stores in two words: how large each is, and the words after a bit is written.
use mathlib.Core.Path.{◌≡◌, refl, sym, ap, ◌∙◌}
use mathlib.Core.Bool.{Bool, true, false, cond, ◌&&◌}
use mathlib.Core.List.{List, [], ◌∷◌}
use Prim.Native.Nat.{ℕ, zero, suc, ◌+◌, ◌-◌, ◌^◌, ◌<◌, ◌≤◌, min}
use native.Mathlib.Nat.{le_trans, sub-zero}
use native.Mathlib.Omega.{arith}
use lib.Dec.{eqb, ltb}
use lib.IntN.{ℤ, pos, nat_abs}
use lib.Pow.{pow_mono}
use lib.ListN.{length, get_or, take, drop, set, drop_of_length-le, length-take, length-drop}
use lib.Seq.{take-length, take_all, take-set-lt, take-set-le, drop-set-lt, drop-set-add}
use native.Mathlib.Decide.{dec_lt}
use borrow.Author.Tests.{ltb-true, lt-ltb, le-ltb}
use Rattle.algebra.specs.Words.{from_bits}
use Rattle.algebra.specs.Lists.{every}
use Rattle.algebra.proofs.Tests.{and_split}
use Rattle.gate.specs.Gate.{Gate, measure, reset, qubits, bits, distinct, formed, placed, supported}
use Rattle.gate.specs.Operators.{Operator, operator, operators, unitaries, no_unitary, projectors, resetters}
use Rattle.gate.specs.Inner.Entries.{valid}
use Rattle.gate.proofs.Bits.{Word}
use Rattle.kraus.specs.Branch.{Store, write}
use Rattle.store.specs.Inner.Held.{Bits}
use Rattle.branches.specs.Inner.Store.{store_words, with_bit, outcome_word, outcome_pair, outcome_bit}
use Rattle.algebra.proofs.Bits.{bits-take, bits-drop, bits_below, take_below, bits-set, bit-weight}

-- ---- the word of the bits from `first` on, with a bit written
module _ (first bit v : ℕ) (w : ℤ) where
  pub outcome_below : bit < first → outcome_word first bit v w ≡ w
  outcome_below h = ap (λ (b : Bool). cond b w (cond (ltb 31 (bit - first)) w (pos (with_bit (nat_abs w) (bit - first) v)))) (lt-ltb bit first h)

  module _ (h : first ≤ bit) where
    within : outcome_word first bit v w ≡ cond (ltb 31 (bit - first)) w (pos (with_bit (nat_abs w) (bit - first) v))
    within = ap (λ (b : Bool). cond b w (cond (ltb 31 (bit - first)) w (pos (with_bit (nat_abs w) (bit - first) v)))) (le-ltb bit first h)

    pub outcome_above : 31 < bit - first → outcome_word first bit v w ≡ w
    outcome_above k = within ∙ ap (λ (b : Bool). cond b w (pos (with_bit (nat_abs w) (bit - first) v))) (lt-ltb 31 (bit - first) k)

    pub outcome_in : bit - first ≤ 31 → outcome_word first bit v w ≡ pos (with_bit (nat_abs w) (bit - first) v)
    outcome_in k = within ∙ ap (λ (b : Bool). cond b w (pos (with_bit (nat_abs w) (bit - first) v))) (le-ltb 31 (bit - first) k)

pub with_bit_below : (x k v : ℕ) → x < 2 ^ 32 → k < 32 → v ≤ 1 → with_bit x k v < 2 ^ 33
with_bit_below x k v h l m = omega (arith, bit-weight v (2 ^ k) m, pow_mono {i = k} {j = 31} (omega arith))

-- ---- a store's words
module _ (σ : Store) (b : Bits σ) where
  pub low_below : from_bits (take 32 σ) < 2 ^ 32
  low_below = take_below 32 σ b

  pub high_below : length σ ≤ 64 → from_bits (drop 32 σ) < 2 ^ 32
  high_below h =
      le_trans (bits_below (drop 32 σ) (bits-drop 32 σ b))
      (pow_mono {i = length (drop 32 σ)} {j = 32} (omega (arith, length-drop 32 σ)))

  -- with a bit written
  pub store-written : (bit v : ℕ) → length σ ≤ 64 → bit < length σ
      → outcome_pair bit v (pos (from_bits (take 32 σ))) (pos (from_bits (drop 32 σ))) ≡ store_words (set σ bit v)
  store-written bit v h l = go (dec_lt bit 32)
    where
      go : Dec (bit < 32) → outcome_pair bit v (pos (from_bits (take 32 σ))) (pos (from_bits (drop 32 σ))) ≡ store_words (set σ bit v)
      go (yes p) = λ i.
          (outcome_in 0 bit v (pos (from_bits (take 32 σ))) (omega arith) (omega arith)
          ∙ ap (λ (k : ℕ). pos (with_bit (from_bits (take 32 σ)) k v)) (sub-zero bit)
          ∙ ap pos (sym (bits-set (take 32 σ) bit v (bits-take 32 σ b) (omega (arith, length-take 32 σ))) ∙ ap from_bits (sym (take-set-lt 32 σ bit v p)))) i
          ∷ (outcome_below 32 bit v (pos (from_bits (drop 32 σ))) p ∙ ap (λ (τ : Store). pos (from_bits τ)) (sym (drop-set-lt 32 σ bit v p))) i ∷ []
      go (no p) =
          let e : 32 + (bit - 32) ≡ bit = omega arith in
          λ i.
          (outcome_above 0 bit v (pos (from_bits (take 32 σ))) (omega arith) (omega arith) ∙ ap (λ (τ : Store). pos (from_bits τ)) (sym (take-set-le 32 σ bit v (omega arith)))) i
          ∷ (outcome_in 32 bit v (pos (from_bits (drop 32 σ))) (omega arith) (omega arith)
          ∙ ap pos (sym (bits-set (drop 32 σ) (bit - 32) v (bits-drop 32 σ b) (omega (arith, length-drop 32 σ)))
          ∙ ap from_bits (sym (drop-set-add 32 σ (bit - 32) v) ∙ ap (λ (k : ℕ). drop 32 (set σ k v)) e))) i ∷ []

-- a store of at most 64 bits, cut at bit 32 or at its end
module _ (σ : Store) {cut : ℕ} (e : cut ≡ min (length σ) 32) where
  pub cut_low : from_bits (take cut σ) ≡ from_bits (take 32 σ)
  cut_low = go (dec_lt (length σ) 32)
    where
      go : Dec (length σ < 32) → from_bits (take cut σ) ≡ from_bits (take 32 σ)
      go (yes p) = let f : cut ≡ length σ = omega arith in ap (λ (k : ℕ). from_bits (take k σ)) f ∙ ap from_bits (take-length σ ∙ sym (take_all 32 σ (omega arith)))
      go (no p) = let f : cut ≡ 32 = omega arith in ap (λ (k : ℕ). from_bits (take k σ)) f

  pub cut_high : from_bits (drop cut σ) ≡ from_bits (drop 32 σ)
  cut_high = go (dec_lt (length σ) 32)
    where
      go : Dec (length σ < 32) → from_bits (drop cut σ) ≡ from_bits (drop 32 σ)
      go (yes p) = ap from_bits (drop_of_length-le σ {i = cut} (omega arith) ∙ sym (drop_of_length-le σ {i = 32} (omega arith)))
      go (no p) = let f : cut ≡ 32 = omega arith in ap (λ (k : ℕ). from_bits (drop k σ)) f

-- what operator k of a gate leaves of a store's words
pub outcome-store : (n m : ℕ) (g : Gate) (z : Operator) (σ : Store) (k : ℕ) → valid n m g ≡ true → Word m σ → m ≤ 64 → k < length (operators g)
    → outcome_pair (outcome_bit g) k (pos (from_bits (take 32 σ))) (pos (from_bits (drop 32 σ))) ≡ store_words (write (bits g) (get_or (operators g) k z).out σ)
outcome-store n m g z σ k ok (e, b) small = go (eqb g.kind measure) bit_ok
  where
    rest : List Operator
    rest = cond (eqb g.kind reset) resetters (operator (get_or (unitaries g.k) g.kind no_unitary) 0 ∷ [])

    bit_ok : every (λ (i : ℕ). ltb i m) (bits g) ≡ true
    bit_ok =
        let (f, r) = and_split (formed g) (placed n m g && supported g) ok in
        let (p, t) = and_split (placed n m g) (supported g) r in
        let (q, u) = and_split (every (λ (i : ℕ). ltb i n) (qubits g)) (distinct (qubits g) && every (λ (i : ℕ). ltb i m) (bits g)) p in
        (and_split (distinct (qubits g)) (every (λ (i : ℕ). ltb i m) (bits g)) u).1

    go : (t : Bool) → every (λ (i : ℕ). ltb i m) (cond t (g.b ∷ []) []) ≡ true → k < length (cond t projectors rest)
        → outcome_pair (cond t g.b 64) k (pos (from_bits (take 32 σ))) (pos (from_bits (drop 32 σ))) ≡ store_words (write (cond t (g.b ∷ []) []) (get_or (cond t projectors rest) k z).out σ)
    go true q h = store-written σ b g.b k (omega arith) (omega (arith, ltb-true g.b m (and_split (ltb g.b m) true q).0)) ∙ ap (λ (v : ℕ). store_words (set σ g.b v)) (out k h)
      where
        out : (k : ℕ) → k < 2 → k ≡ (get_or projectors k z).out
        out zero h = refl
        out (suc zero) h = refl
        out (suc (suc k)) h = absurd (omega arith)
    go false q h = refl
