-- The words of a form, followed by any others: what stands in its records.
use mathlib.Core.Path.{◌≡◌, sym, ap, ◌∙◌}
use mathlib.Core.List.{List, [], ◌∷◌, ◌++◌}
use Prim.Native.Nat.{ℕ, suc, ◌+◌, ◌*◌, ◌/◌, ◌%◌, ◌^◌, ◌<◌}
use native.Mathlib.Nat.{add-zero, add_assoc, div-add-mod', add_comm}
use native.Mathlib.Omega.{arith}
use lib.ListN.{length, get_or, length-append, get_or-append}
use lib.Seq.{get_or-append-add}
use lib.IntN.{ℤ, pos, nat_abs}
use Rattle.algebra.specs.Words.{joined}
use Rattle.algebra.proofs.Blocks.{length-joined, joined_at, block_in_lem}
use Rattle.exact.specs.Exact.{lowest}
use Rattle.channel.specs.Shared.{Shared, entry, shared}
use Rattle.channel.specs.Layout.{Block, word, store_at, Form, entries, block_size, block_words, record_size, record_at, record_words, words, next, first, numbers_at, shared_at}
use Rattle.channel.specs.Claims.{Suits, Lowest}
use Rattle.channel.specs.Forms.{Alike}
use Rattle.channel.proofs.Shared.{gives_back}
use Rattle.channel.proofs.Restore.{length-block, restored, shared_restorable}

-- ---- n records of s words, after four words
module _ (a b c d : ℤ) (s n : ℕ) (f : ℕ → List ℤ) (sized : (j : ℕ) → length (f j) ≡ s) (rest : List ℤ) where
  abbrev used : List ℤ
  used = (a ∷ b ∷ c ∷ d ∷ []) ++ joined n f

  length-used : length used ≡ 4 + n * s
  length-used = length-append (a ∷ b ∷ c ∷ d ∷ []) (joined n f) ∙ ap (λ (k : ℕ). 4 + k) (length-joined s f sized n)

  pub length-words : length (used ++ rest) ≡ 4 + n * s + length rest
  length-words = length-append used rest ∙ ap (λ (k : ℕ). k + length rest) length-used

  -- word k of record j
  pub record_word : (j k : ℕ) → j < n → k < s → word (used ++ rest) (4 + j * s + k) ≡ get_or (f j) k (pos 0)
  record_word j k h q =
      let p = block_in_lem h s in
      get_or-append used rest (pos 0) (4 + j * s + k) (omega (arith, length-used))
      ∙ ap (λ (i : ℕ). get_or used i (pos 0)) (add_assoc 4 (j * s) k)
      ∙ get_or-append-add (a ∷ b ∷ c ∷ d ∷ []) (joined n f) (j * s + k) (pos 0)
      ∙ joined_at s f sized n j k h q

module _ (F : Form) (d m n : ℕ) (block : ℕ → Block) (rest : List ℤ) where
  abbrev pub written : List ℤ
  written = words F d m n block ++ rest

  abbrev pub form : ℕ → Shared
  form j = shared (entries F) (block j).entry

  abbrev record_words_lem : ℕ → List ℤ
  record_words_lem j = record_words F (next F d m n block j) (block j).store (form j)

  sized : (j : ℕ) → length (record_words_lem j) ≡ record_size F
  sized j = ap (λ (k : ℕ). suc (suc (suc (suc k)))) (length-block F (form j).num) ∙ by (block_size F)
    where
      by : (k : ℕ) → suc (suc (suc (suc k))) ≡ 4 + k
      by k = omega arith

  pub length-written : length written ≡ 4 + n * record_size F + length rest
  length-written = length-words (pos d) (pos m) (pos n) (pos (first F d m n block)) (record_size F) n record_words_lem sized rest

  at-word : (j k : ℕ) → j < n → k < record_size F → word written (record_at F j + k) ≡ get_or (record_words_lem j) k (pos 0)
  at-word = record_word (pos d) (pos m) (pos n) (pos (first F d m n block)) (record_size F) n record_words_lem sized rest

  module _ (j : ℕ) (h : j < n) where
    pub written_next : word written (record_at F j) ≡ pos (next F d m n block j)
    written_next = ap (word written) (sym (add-zero (record_at F j))) ∙ at-word j 0 h (omega arith)

    pub written_low : word written (record_at F j + 1) ≡ pos ((block j).store % 2 ^ 32)
    written_low = at-word j 1 h (omega arith)

    pub written_high : word written (record_at F j + 2) ≡ pos ((block j).store / 2 ^ 32)
    written_high = at-word j 2 h (omega arith)

    pub written-exponent : word written (record_at F j + 3) ≡ pos (form j).exp
    written-exponent = at-word j 3 h (omega arith)

    pub written-store : store_at written (record_at F j) ≡ (block j).store
    written-store = (λ i. nat_abs (written_low i) + nat_abs (written_high i) * 2 ^ 32) ∙ add_comm ((block j).store % 2 ^ 32) ((block j).store / 2 ^ 32 * 2 ^ 32) ∙ div-add-mod' (block j).store (2 ^ 32)

    pub written-word : (i : ℕ) → i < block_size F → word written (record_at F j + 4 + i) ≡ get_or (block_words F (form j).num) i (pos 0)
    written-word i l = ap (word written) (place (record_at F j)) ∙ at-word j (suc (suc (suc (suc i)))) h (below (block_size F) l)
      where
        place : (a : ℕ) → a + 4 + i ≡ a + suc (suc (suc (suc i)))
        place a = omega arith

        below : (b : ℕ) → i < b → suc (suc (suc (suc i))) < 4 + b
        below b l = omega arith

    module _ (u : Suits F (block j).entry) where
      pub written-numbers : (k : ℕ) → k < entries F → numbers_at F written (record_at F j) k ≡ (form j).num k
      written-numbers = restored F (form j).num (shared_restorable F (block j).entry u) (λ (i : ℕ). word written (record_at F j + 4 + i)) written-word

      pub written-shared : Alike (entries F) (shared_at F written (record_at F j)) (form j)
      written-shared = record { exp = ap nat_abs written-exponent; num = written-numbers }

      pub written_entry : Lowest (entries F) (block j).entry → (k : ℕ) → k < entries F → entry (shared_at F written (record_at F j)) k ≡ (block j).entry k
      written_entry low k l = (λ i. lowest (written-numbers k l i) (nat_abs (written-exponent i))) ∙ gives_back (entries F) (block j).entry low k l
