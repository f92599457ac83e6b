-- The stores along the chain of a channel that was delivered, as they are read back, with the blocks of their branches.
use mathlib.Core.Path.{◌≡◌, sym, ap, ◌∙◌, subst}
use mathlib.Core.List.{List, [], ◌++◌, map, map-map}
use Prim.Native.Nat.{ℕ, ◌+◌, ◌*◌, ◌/◌, ◌%◌, ◌^◌, ◌<◌}
use native.Mathlib.Omega.{arith}
use lib.Arith.{digits_lt, digits_div, digits_mod}
use lib.ListN.{length, get_or}
use lib.IntN.{ℤ}
use Rattle.algebra.specs.Lists.{All}
use Rattle.algebra.specs.Words.{from_bits}
use Rattle.algebra.proofs.Sum.{sum_same}
use Rattle.algebra.proofs.Trace.{join, all_back}
use Rattle.algebra.proofs.Perm.{Perm, perm_path, map_of}
use Rattle.exact.proofs.Exact.{exacts}
use Rattle.gate.proofs.Bits.{Word}
use Rattle.kraus.specs.Branch.{Store, Branch}
use Rattle.kraus.specs.Blocks.{stores, block}
use Rattle.kraus.proofs.Effect.{effect}
use Rattle.channel.specs.Layout.{Block, channels, side, effect_of, read_back}
use Rattle.channel.specs.Claims.{Writable}
use Rattle.collect.specs.Delivered.{block_no, branches_words}
use Rattle.demands.proofs.Reading.{SameBlock, SameBlocks, range_map, chained, chained_perm, read-blocks}

-- the block of a store
module _ (n : ℕ) (bs : List Branch) where
  abbrev pub block_of : Store → Block
  block_of τ = record { store = from_bits τ; entry = λ (k : ℕ). block bs τ (k / side (2 ^ n)) (k % side (2 ^ n)) }

  pub entry_is : (a : Block) (τ : Store) → SameBlock (side (2 ^ n)) a (block_of τ) → (i j : ℕ) → i < side (2 ^ n) → j < side (2 ^ n) → a.entry (i * side (2 ^ n) + j) ≡ block bs τ i j
  entry_is a τ g i j p q = g.entries (i * side (2 ^ n) + j) (digits_lt p q) ∙ (λ x. block bs τ (digits_div i q x) (digits_mod i q x))

  pub effect_is : (r c : ℕ) → r < 2 ^ n → c < 2 ^ n → (a : Block) (τ : Store) → SameBlock (side (2 ^ n)) a (block_of τ) → effect_of (2 ^ n) a.entry r c ≡ effect (2 ^ n) bs τ r c
  effect_is r c p q a τ g = sum_same exacts (2 ^ n) _ _ (λ o h. entry_is a τ g (o * 2 ^ n + r) (o * 2 ^ n + c) (digits_lt h p) (digits_lt h q))

-- branches whose channel has words: n qubits, m bits
pub record Deliverable (n m : ℕ) (bs : List Branch) : Type 0 where
  pub writable : Writable (channels (2 ^ n)) (2 ^ n) m (length (stores bs)) (block_no (2 ^ n) bs)
  pub words : All (Word m) (stores bs)

module _ {n m : ℕ} {bs : List Branch} (dl : Deliverable n m bs) (rest : List ℤ) where
  abbrev wr : Writable (channels (2 ^ n)) (2 ^ n) m (length (stores bs)) (block_no (2 ^ n) bs)
  wr = dl.writable

  abbrev store_at : ℕ → Store
  store_at j = get_or (stores bs) j []

  abbrev pub along : List Store
  along = map (λ (j : ℕ). get_or (stores bs) j []) (chained dl.writable rest)

  pub along_perm : Perm along (stores bs)
  along_perm = join (map_of store_at (chained_perm wr rest)) (perm_path (range_map [] (stores bs) 0 store_at (λ k h. let e : 0 + k ≡ k = omega arith in ap store_at e)))

  pub along-blocks : SameBlocks (side (2 ^ n)) (read_back (branches_words (2 ^ n) m bs ++ rest)) (map (block_of n bs) along)
  along-blocks = subst (SameBlocks (side (2 ^ n)) (read_back (branches_words (2 ^ n) m bs ++ rest))) (sym (map-map (block_of n bs) store_at (chained wr rest))) (read-blocks wr rest)

  pub along-words : All (Word m) along
  along-words = all_back (Word m) along_perm dl.words
