-- The channel that an accepted circuit or program delivers, as it is read back: its stores along the chain, its blocks and its effects.
use mathlib.Core.Path.{◌≡◌, refl, sym, ap, ◌∙◌}
use mathlib.Core.Bool.{Bool, true, false, ◌||◌}
use mathlib.Core.List.{List, [], ◌∷◌, ◌++◌, map}
use Prim.Native.Nat.{ℕ, ◌+◌, ◌*◌, ◌^◌, ◌<◌, ◌≤◌}
use native.Mathlib.Omega.{arith}
use lib.Arith.{digits_lt}
use lib.Dec.{eqb}
use lib.Pow.{pow_pos}
use lib.ListN.{length}
use lib.IntN.{ℤ, nat_abs}
use Rattle.algebra.specs.Lists.{All}
use Rattle.algebra.specs.Sum.{δ}
use Rattle.algebra.specs.Words.{from_bits}
use Rattle.algebra.proofs.Tests.{all-at}
use Rattle.algebra.proofs.Lists.{filter_all, filter_true}
use Rattle.algebra.proofs.Trace.{same, all_back, some_of}
use Rattle.algebra.proofs.Perm.{gather}
use Rattle.exact.specs.Exact.{Exact, exact, conj, is_zero}
use Rattle.gate.specs.Gate.{Gate, max_weight}
use Rattle.gate.proofs.Bits.{Word}
use Rattle.kraus.specs.Branch.{Store, Branch, branches}
use Rattle.kraus.specs.Blocks.{alive, survivors, stores, block}
use Rattle.kraus.proofs.Hermitian as hermitian
use Rattle.kraus.proofs.Enough.{Whole}
use Rattle.kraus.proofs.Limits.{Enough, enough, kraus_exponent, suits, circuit_whole}
use Rattle.kraus.proofs.Effect.{effect, effects-whole}
use Rattle.store.specs.Store.{bits}
use Rattle.channel.specs.Layout.{Block, side, effect_of, read_back}
use Rattle.channel.specs.WellFormed.{all_zero, some_zero, has_zero_block}
use Rattle.collect.proofs.Held.{branches_square}
use Rattle.store.proofs.Bytes.{bits-word}
use Rattle.collect.specs.Delivered.{branches_words}
use Rattle.demands.specs.Demands.{IsChannel}
use Rattle.demands.proofs.Reading.{SameBlock, SameBlocks, formed_back}
use Rattle.demands.proofs.Stores.{some-stores}
use Rattle.demands.proofs.Positive.{blocks-not-zero}
use Rattle.demands.proofs.Agreeing.{agrees_some, agrees_all, agrees_fold}
use Rattle.demands.proofs.Along.{block_of, entry_is, effect_is, Deliverable, along, along_perm, along-blocks, along-words}
use Rattle.demands.proofs.Effects.{textbook, transposed}
use Rattle.judge.proofs.Accepted.{Sound, store_words}
use Rattle.judge.proofs.Writable.{survivors-writable}

-- effects that add up to 1 are not none
some-store : (φ : Store → Exact) (ts : List Store) → gather exact.◌⊕◌ φ exact.𝟘 ts ≡ exact.𝟙 → 1 ≤ length ts
some-store φ [] e = let z : ◌≡◌ {A = ℕ} 0 1 = ap (λ (x : Exact). nat_abs x.num.re.re) e in absurd (omega arith)
some-store φ (τ ∷ ts) e = omega arith

-- all branches of an accepted circuit or program on n qubits, with m bits in a store
pub record Source (n m : ℕ) (all : List Branch) : Type 0 where
  pub small : n ≤ 4
  pub few : m ≤ 64
  pub whole : Whole n kraus_exponent all
  pub square : All (λ (b : Branch). length b.matrix ≡ 2 ^ n * 2 ^ n) all
  pub words : All (Word m) (stores (survivors all))

pub circuit_source : {n m : ℕ} {σ : List ℕ} {gs : List Gate} {result work : ℕ} → Sound n m σ gs result work → Source n m (branches n σ gs)
circuit_source {n} {m} {σ} {gs} s = record {
  small = s.qubit_count;
  few = s.bit_count_lem;
  whole = circuit_whole max_weight n m σ gs s.valid_gates s.light;
  square = branches_square n σ gs;
  words = store_words s;
}

module _ {n m : ℕ} {all : List Branch} (s : Source n m all) where
  pub source_enough : Enough kraus_exponent n all
  source_enough = enough kraus_exponent n all suits s.whole

  pub deliverable : Deliverable n m (survivors all)
  deliverable = record { writable = survivors-writable s.small s.few source_enough s.words; words = s.words }

module _ {n m : ℕ} {all : List Branch} (s : Source n m all) (rest : List ℤ) where
  abbrev d : ℕ
  d = 2 ^ n

  abbrev w : ℕ
  w = side d

  abbrev bs : List Branch
  bs = survivors all

  abbrev l : List ℤ
  l = branches_words (2 ^ n) m bs ++ rest

  -- the stores along the chain, with their blocks
  abbrev ts : List Store
  ts = along (deliverable s) rest

  same_blocks : SameBlocks w (read_back l) (map (block_of n bs) ts)
  same_blocks = along-blocks (deliverable s) rest

  same-words : All (Word m) ts
  same-words = along-words (deliverable s) rest

  -- no block is zero: its diagonal is not
  not-zero : All (λ (τ : Store). ((i : ℕ) → i < w → is_zero (block bs τ i i).num ≡ true) → ⊥) ts
  not-zero =
      all_back _ (along_perm (deliverable s) rest)
      (blocks-not-zero kraus_exponent w bs (filter_all _ alive all s.whole.fits) (filter_all _ alive all s.square) (filter_true alive all))

  -- the effects add up to the identity
  pub source_total : (r c : ℕ) → r < 2 ^ n → c < 2 ^ n → gather exact.◌⊕◌ (λ (τ : Store). effect (2 ^ n) (survivors all) τ r c) exact.𝟘 (along (deliverable s) rest) ≡ δ exact r c
  source_total r c p q = effects-whole n all s.whole.complete ts (along_perm (deliverable s) rest) r c p q

  pub none-zero : has_zero_block (branches_words (2 ^ n) m (survivors all) ++ rest) ≡ false
  none-zero = go (read_back l) (agrees_all w (block_of n bs) (λ (a : Block). all_zero (w * w) a.entry ≡ false) _ one (read_back l) ts not-zero same_blocks)
    where
      one : (a : Block) (τ : Store) → (((i : ℕ) → i < w → is_zero (block bs τ i i).num ≡ true) → ⊥) → SameBlock w a (block_of n bs τ) → all_zero (w * w) a.entry ≡ false
      one a τ h g = by (all_zero (w * w) a.entry) refl
        where
          by : (b : Bool) → all_zero (w * w) a.entry ≡ b → all_zero (w * w) a.entry ≡ false
          by false e = e
          by true e = absurd (h (λ i p. ap (λ (x : Exact). is_zero x.num) (sym (entry_is n bs a τ g i i p p)) ∙ all-at (w * w) (λ (k : ℕ). is_zero (a.entry k).num) e (i * w + i) (digits_lt p p)))

      go : (xs : List Block) → All (λ (a : Block). all_zero (w * w) a.entry ≡ false) xs → some_zero w xs ≡ false
      go [] h = refl
      go (x ∷ xs) h = λ i. h.0 i || go xs h.1 i

  pub is_channel : IsChannel n m (survivors all) (branches_words (2 ^ n) m (survivors all) ++ rest)
  is_channel = record {
    formed = formed_back (deliverable s).writable rest;
    full = none-zero;
    dim = refl;
    bit_count = refl;
    count = refl;
    nonempty = some-store (λ (τ : Store). effect d bs τ 0 0) (stores bs) (effects-whole n all s.whole.complete (stores bs) (same (stores bs)) 0 0 (pow_pos n) (pow_pos n));
    listed = λ k. agrees_some w (block_of n bs) (λ (x : ℕ). eqb x k) (read_back l) ts same_blocks ∙ some_of (λ (τ : Store). eqb (from_bits τ) k) (along_perm (deliverable s) rest) ∙ some-stores (λ (τ : Store). eqb (from_bits τ) k) bs;
    entries = agrees_all w (block_of n bs) _ (Word m) (λ a τ h g i j p q.
        entry_is n bs a τ g i j p q ∙ ap (λ (ρ : Store). block bs ρ i j) (sym (ap (bits m) g.store ∙ bits-word m τ h))) (read_back l) ts same-words same_blocks;
    hermitian = agrees_all w (block_of n bs) _ (Word m) (λ a τ h g i j p q.
        entry_is n bs a τ g i j p q ∙ hermitian.hermitian bs τ i j ∙ ap conj (sym (entry_is n bs a τ g j i q p))) (read_back l) ts same-words same_blocks;
    effects = λ r c p q. agrees_fold w (block_of n bs) (λ (a : Block). effect_of d a.entry r c) (λ (τ : Store). effect d bs τ r c) (effect_is n bs r c p q) (read_back l) ts exact.𝟘 same_blocks
        ∙ source_total r c p q;
    textbook = textbook (deliverable s) rest;
    transposed = transposed (deliverable s) rest;
  }
