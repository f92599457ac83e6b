-- From a bank to its channel: the records that are collected, linked and headed.
use mathlib.Core.Path.{◌≡◌, sym, ap, ◌∙◌, subst}
use mathlib.Core.List.{List}
use Prim.Native.Nat.{ℕ, ◌+◌, ◌^◌, ◌<◌}
use native.Mathlib.Omega.{arith}
use lib.ListN.{length, get_or}
use lib.IntN.{ℤ}
use Rattle.algebra.specs.Words.{blocks}
use Rattle.algebra.proofs.Blocks.{wrote}
use Rattle.algebra.proofs.Lists.{all_get_d}
use Rattle.algebra.proofs.Signed.{word_is}
use Rattle.kraus.specs.Blocks.{survivors}
use Rattle.store.specs.Inner.Held.{StoreAt}
use Rattle.store.specs.Store.{max_word, store_from}
use Rattle.channel.specs.Layout.{Block, header_size, record_size, channels, word}
use Rattle.collect.specs.Inner.Bank.{stores_of, block_of, records, bank_in, Deliverable}
use Rattle.collect.specs.Inner.Links.{linked, headed, Records}
use Rattle.collect.specs.Delivered.{branches_words, overwritten}
use Rattle.collect.proofs.Linking.{Linked, linked-records}
use Rattle.collect.proofs.Whole.{delivered, linkable}
use Rattle.collect.proofs.Branching.{stores_each, stores-few, channel_is}

-- a store in two words has 64 bits
store_below : {l : List ℤ} {at : ℕ} → StoreAt l at → store_from (word l at) (word l (at + 1)) < 2 ^ 64
store_below {l} {at} s = omega (arith, (word_is max_word (word l at) s.low).1, (word_is max_word (word l (at + 1)) s.high).1)

module _ {result work : List ℤ} {at d m count : ℕ} (p : Deliverable result work at d m count) where
  abbrev stores : List ℕ
  stores = stores_of work at d count

  abbrev block_at : ℕ → Block
  block_at j = block_of work at d count (get_or stores j 0)

  abbrev collected : List ℤ
  collected = blocks (record_size (channels d)) result header_size (length stores) (records work at d count)

  module _ {n : ℕ} (e : n ≡ length stores) {a : List ℤ} (f : a ≡ collected) where
    pub collected-records : Records a d n
    collected-records = subst (Records a d) (sym e)
        (linkable result d m (length stores) block_at p.room p.bank.dim (omega (arith, p.bank.few, stores-few work at d m count)) narrow f)
      where
        narrow : (j : ℕ) → j < length stores → (block_at j).store < 2 ^ 64
        narrow j h = all_get_d (λ (s : ℕ). s < 2 ^ 64) stores (stores_each work at d m (λ (s : ℕ). s < 2 ^ 64) count (λ i k. store_below (p.bank.stores i k))) j h 0

    module _ {b : List ℤ} (g : b ≡ linked d n a) where
      pub relinked_records : Records b d n
      relinked_records = linked-records linking collected-records
        where
          linking : Linked a d n b n
          linking = record { writing = wrote (λ k. omega arith) g }

      pub channel_delivered : {c : List ℤ} → c ≡ headed d m n b → c ≡ overwritten (branches_words d m (survivors (bank_in work at d m count))) result
      channel_delivered {c} h =
          delivered result d m (length stores) block_at p.room f (g ∙ ap (λ (k : ℕ). linked d k a) e) (h ∙ ap (λ (k : ℕ). headed d m k b) e)
          ∙ ap (λ (ws : List ℤ). overwritten ws result) (channel_is work at d m count p.bits)
