-- The words of a channel: records written with no links, then linked, then headed.
use mathlib.Core.Path.{◌≡◌, refl, sym, ap, ◌∙◌}
use mathlib.Core.Bool.{true}
use mathlib.Core.List.{List, [], ◌∷◌, ◌++◌, append_assoc}
use Prim.Native.Nat.{ℕ, zero, suc, ◌+◌, ◌*◌, ◌/◌, ◌%◌, ◌^◌, ◌≤◌, ◌<◌}
use native.Mathlib.Nat.{le_refl, add_comm, div-add-mod', mod-lt}
use native.Mathlib.Omega.{arith}
use lib.Pow.{pow_pos}
use lib.ListN.{length, get_or, set, take, drop, length-append, length-take}
use lib.Seq.{sets, sets-eq, drop_at, get_or-set_other}
use lib.IntN.{ℤ, pos}
use borrow.Author.Tests.{le-leb}
use Rattle.algebra.specs.Words.{blocks, up_to}
use Rattle.algebra.specs.Words as words
use Rattle.algebra.proofs.Blocks.{wrote, rest, block_in_lem, length-blocks, blocks_at, blocks-same, blocks_over, blocks_parts, length-joined, joined_same}
use Rattle.store.specs.Store.{max_word, store_from, before}
use Rattle.channel.specs.Shared.{Shared, shared}
use Rattle.channel.specs.Forms.{Alike}
use Rattle.channel.specs.Layout.{Block, channels, side, entries, header_size, record_size, record_at, word, link, next, first, header, block_words, record_words, channel_words}
use Rattle.channel.proofs.Shared.{shared_same}
use Rattle.channel.proofs.Restore.{block_same}
use Rattle.channel.proofs.Words.{square_small}
use Rattle.collect.specs.Inner.Links.{block_in, linked, headed, Records}
use Rattle.collect.specs.Delivered.{overwritten}
use Rattle.share.proofs.Numbers.{sets_there}
use Rattle.collect.proofs.Recording.{length_record}
use Rattle.collect.proofs.Linking.{least-same, stores_in, Linked, store_kept}

-- a head written before words that are there is the whole block written
heads-whole : (s : ℕ) (l : List ℤ) (at : ℕ) (y : ℕ → ℤ) (t : ℕ → List ℤ) → ((i : ℕ) → suc (length (t i)) ≤ s) → (n : ℕ) → ((i k : ℕ) → i < n → k < length (t i) → get_or l (at + i * s + suc k) (pos 0) ≡ get_or (t i) k (pos 0))
    → blocks s l at n (λ (i : ℕ). y i ∷ []) ≡ blocks s l at n (λ (i : ℕ). y i ∷ t i)
unfolding blocks
heads-whole s l at y t h zero e = refl
heads-whole s l at y t h (suc n) e =
    ap (λ (m : List ℤ). set m p (y n)) (heads-whole s l at y t h n (λ i k q. e i k (omega arith)))
    ∙ sym (sets_there (t n) (set before' p (y n)) (suc p) there)
  where
    p : ℕ
    p = at + n * s

    before' : List ℤ
    before' = blocks s l at n (λ (i : ℕ). y i ∷ t i)

    there : (k : ℕ) → k < length (t n) → get_or (set before' p (y n)) (suc p + k) (pos 0) ≡ get_or (t n) k (pos 0)
    there k q =
        let f : suc p + k ≡ p + suc k = omega arith in
        get_or-set_other before' p (suc p + k) (y n) (pos 0) (λ u. omega arith)
        ∙ ap (λ (w : ℕ). get_or before' w (pos 0)) f
        ∙ (rest (wrote {s = s} {l = l} {at = at} {n = n} {f = λ (i : ℕ). y i ∷ t i} h refl) p s (le_refl p)).word (p + suc k) (omega arith) (omega (arith, h n))
        ∙ e n k (omega arith) q

module _ (l : List ℤ) (d m n : ℕ) (B : ℕ → Block) (room : header_size + n * record_size (channels d) ≤ length l) where
  abbrev S : ℕ → Shared
  S j = shared (entries (channels d)) (B j).entry

  -- record j, as one of the chain
  abbrev chained : ℕ → List ℤ
  chained j = record_words (channels d) (next (channels d) d m n B j) (B j).store (S j)

  -- the records, and with next indices
  abbrev unlinked : List ℤ
  unlinked = blocks (record_size (channels d)) l header_size n (λ (j : ℕ). record_words (channels d) 0 (B j).store (S j))

  abbrev whole : List ℤ
  whole = blocks (record_size (channels d)) l header_size n chained

  sized : (x j : ℕ) → length (record_words (channels d) x (B j).store (S j)) ≡ record_size (channels d)
  sized x j = length_record d x (B j).store (S j)

  word_read : (j k : ℕ) → j < n → k < record_size (channels d) → word unlinked (record_at (channels d) j + k) ≡ get_or (record_words (channels d) 0 (B j).store (S j)) k (pos 0)
  word_read j k h q = blocks_at (record_size (channels d)) l header_size (λ (j : ℕ). record_words (channels d) 0 (B j).store (S j)) (λ i. omega (arith, sized 0 i)) n j k h (omega (arith, sized 0 j)) room

  store-read : (j : ℕ) → j < n → stores_in unlinked d j ≡ (B j).store
  store-read j h =
      (λ i. store_from (word_read j 1 h (omega arith) i) (word_read j 2 h (omega arith) i))
      ∙ add_comm ((B j).store % 2 ^ 32) ((B j).store / 2 ^ 32 * 2 ^ 32) ∙ div-add-mod' (B j).store (2 ^ 32)

  linked-whole : linked d n unlinked ≡ whole
  linked-whole =
      blocks-same (record_size (channels d)) unlinked header_size n _ (λ (j : ℕ). pos (next (channels d) d m n B j) ∷ [])
      (λ j h. ap (λ (k : ℕ). pos (link (channels d) k) ∷ []) (least-same n (stores_in unlinked d) (λ (i : ℕ). (B i).store) (before (stores_in unlinked d j)) (before (B j).store) store-read (ap before (store-read j h))))
      ∙ heads-whole (record_size (channels d)) unlinked header_size (λ (j : ℕ). pos (next (channels d) d m n B j)) (λ (j : ℕ). pos ((B j).store % 2 ^ 32) ∷ pos ((B j).store / 2 ^ 32) ∷ pos (S j).exp ∷ block_words (channels d) (S j).num)
      (λ j. omega (arith, sized 0 j)) n (λ j k h q. word_read j (suc k) h (omega (arith, sized 0 j)))
      ∙ blocks_over (record_size (channels d)) l header_size n (λ (j : ℕ). record_words (channels d) 0 (B j).store (S j)) chained (sized 0) (λ j. sized (next (channels d) d m n B j) j) room

  first-whole : {b : List ℤ} → b ≡ linked d n unlinked → first (channels d) d m n (block_in b (side d)) ≡ first (channels d) d m n B
  first-whole {b} e = ap (link (channels d)) (least-same n (stores_in b d) (λ (i : ℕ). (B i).store) (λ (s : ℕ). true) (λ (s : ℕ). true) (λ i h. store_kept linking i ∙ store-read i h) refl)
    where
      linking : Linked unlinked d n b n
      linking = record { writing = wrote (λ k. omega arith) e }

  -- the header over the first words
  headed-whole : sets whole 0 (header (channels d) d m n B) ≡ overwritten (channel_words d m n B) l
  headed-whole =
      sets-eq (header (channels d) d m n B) whole 0 (omega (arith, length-blocks (record_size (channels d)) l header_size chained n))
      ∙ ap (λ (t : List ℤ). header (channels d) d m n B ++ t)
      (ap (drop header_size) (blocks_parts (record_size (channels d)) chained (λ j. sized (next (channels d) d m n B j) j) l header_size n room
      ∙ append_assoc (take header_size l) recs (drop (header_size + n * record_size (channels d)) l))
      ∙ drop_at (take header_size l) (recs ++ drop (header_size + n * record_size (channels d)) l) header_size (simp length-take (omega arith)))
      ∙ sym (append_assoc (header (channels d) d m n B) recs (drop (header_size + n * record_size (channels d)) l))
      ∙ ap (λ (k : ℕ). (header (channels d) d m n B ++ recs) ++ drop k l) (sym size)
    where
      recs : List ℤ
      recs = words.joined n chained

      size : length (header (channels d) d m n B ++ recs) ≡ header_size + n * record_size (channels d)
      size = length-append (header (channels d) d m n B) recs ∙ ap (λ (k : ℕ). header_size + k) (length-joined (record_size (channels d)) chained (λ j. sized (next (channels d) d m n B j) j) n)

  -- what is left once the records are linked and headed
  pub delivered : {a b c : List ℤ} → a ≡ unlinked → b ≡ linked d n a → c ≡ headed d m n b → c ≡ overwritten (channel_words d m n B) l
  delivered {a} {b} {c} e f g =
      let linked-b : b ≡ linked d n unlinked = f ∙ ap (linked d n) e in
      g
      ∙ (λ i. sets ((linked-b ∙ linked-whole) i) 0 (pos d ∷ pos m ∷ pos n ∷ pos (first-whole linked-b i) ∷ []))
      ∙ headed-whole

  -- the records may be linked, where there are few and their stores have 64 bits
  pub linkable : d ≤ 16 → n ≤ 64 → ((j : ℕ) → j < n → (B j).store < 2 ^ 64) → {a : List ℤ} → a ≡ unlinked → Records a d n
  linkable small few narrow {a} e = record {
    dim = small;
    few = few;
    long = omega (arith, room, size);
    stored = λ j h. record {
      width = square_small d small;
      room = omega (arith, room, size, block_in_lem h (record_size (channels d)));
      low = ap (λ (b : List ℤ). up_to max_word (word b (record_at (channels d) j + 1))) e ∙ ap (up_to max_word) (word_read j 1 h (omega arith)) ∙ le-leb ((B j).store % 2 ^ 32) max_word (omega (arith, mod-lt (B j).store (pow_pos 32)));
      high = ap (λ (b : List ℤ). up_to max_word (word b (record_at (channels d) j + 2))) e ∙ ap (up_to max_word) (word_read j 2 h (omega arith)) ∙ le-leb ((B j).store / 2 ^ 32) max_word (omega (arith, narrow j h));
    };
  }
    where
      size : length a ≡ length l
      size = ap length e ∙ length-blocks (record_size (channels d)) l header_size (λ (j : ℕ). record_words (channels d) 0 (B j).store (S j)) n

-- ---- two ways to give the same blocks
pub channel_same : (d m n : ℕ) (B C : ℕ → Block) → ((j : ℕ) → j < n → (B j).store ≡ (C j).store) → ((j k : ℕ) → j < n → k < side d * side d → (B j).entry k ≡ (C j).entry k)
    → channel_words d m n B ≡ channel_words d m n C
channel_same d m n B C e f =
    λ i. (pos d ∷ pos m ∷ pos n ∷ pos (link (channels d) (least-same n (λ (j : ℕ). (B j).store) (λ (j : ℕ). (C j).store) (λ (s : ℕ). true) (λ (s : ℕ). true) e refl i)) ∷ [])
    ++ joined_same n (record_for B) (record_for C) one i
  where
    form : (ℕ → Block) → ℕ → Shared
    form A j = shared (entries (channels d)) (A j).entry

    record_for : (ℕ → Block) → ℕ → List ℤ
    record_for A j = record_words (channels d) (next (channels d) d m n A j) (A j).store (form A j)

    alike : (j : ℕ) → j < n → Alike (entries (channels d)) (form B j) (form C j)
    alike j h = shared_same (entries (channels d)) (B j).entry (C j).entry (λ k q. f j k h q)

    one : (j : ℕ) → j < n → record_for B j ≡ record_for C j
    one j h = λ i.
        pos (link (channels d) (least-same n (λ (j : ℕ). (B j).store) (λ (j : ℕ). (C j).store) (before (B j).store) (before (C j).store) e (ap before (e j h)) i))
        ∷ pos (e j h i % 2 ^ 32) ∷ pos (e j h i / 2 ^ 32) ∷ pos ((alike j h).exp i) ∷ block_same (channels d) (form B j).num (form C j).num (alike j h).num i
