-- A record read from its first word on is the record at its index.
use mathlib.Core.Path.{◌≡◌, sym, ap, ◌∙◌}
use mathlib.Core.Bool.{◌&&◌}
use mathlib.Core.List.{List}
use Prim.Native.Nat.{ℕ, ◌+◌}
use native.Mathlib.Nat.{add-zero, add_assoc}
use lib.ListN.{drop}
use lib.IntN.{ℤ, pos, nat_abs}
use Rattle.std.proofs.lemmas.List.{get_or-drop}
use Rattle.algebra.specs.Dyadic.{frac}
use Rattle.algebra.specs.Lists.{all_below}
use Rattle.algebra.specs.Words.{eqℤ, up_to}
use Rattle.exact.specs.Exact.{max_exponent}
use Rattle.store.specs.Store.{store_from}
use Rattle.channel.specs.Shared.{shared_ok}
use Rattle.channel.specs.Layout.{Form, entries, block_from, block_size, record_head, word, store_at, numbers_at}
use Rattle.channel.specs.WellFormed.{store_ok, diagonal_ok, block_ok, words_ok}
use Rattle.channel.specs.Inner.Shapes.{blank}

module _ (l : List ℤ) (at : ℕ) where
  pub word-from : (i : ℕ) → word (drop at l) i ≡ word l (at + i)
  word-from i = get_or-drop at l i (pos 0)

  pub first-from : word (drop at l) 0 ≡ word l at
  first-from = word-from 0 ∙ ap (word l) (add-zero at)

  pub store-from : store_at (drop at l) 0 ≡ store_at l at
  store-from = λ j. store_from (word-from 1 j) (word-from 2 j)

  pub stored-from : (m : ℕ) → store_ok (drop at l) 0 m ≡ store_ok l at m
  stored-from m = λ j. words_ok (word-from 1 j) (word-from 2 j) m

pub numbers-from : (F : Form) (l : List ℤ) (at : ℕ) → numbers_at F (drop at l) 0 ≡ numbers_at F l at
numbers-from F l at = λ j. block_from F (λ (i : ℕ). along i j)
  where
    along : (i : ℕ) → word (drop at l) (0 + record_head + i) ≡ word l (at + record_head + i)
    along i = word-from l at (record_head + i) ∙ ap (word l) (sym (add_assoc at record_head i))

pub block-from : (F : Form) (l : List ℤ) (at : ℕ) → block_ok F (drop at l) 0 ≡ block_ok F l at
block-from F l at = λ j. up_to max_exponent (word-from l at 3 j) && (shared_ok (entries F) (frac (numbers-from F l at j) (nat_abs (word-from l at 3 j))) && diagonal_ok F (numbers-from F l at j))

pub blank-from : (F : Form) (l : List ℤ) (at : ℕ) → blank F (drop at l) 0 ≡ blank F l at
blank-from F l at = λ j. all_below (block_size F) (λ (i : ℕ). eqℤ (along i j) (pos 0))
  where
    along : (i : ℕ) → word (drop at l) (record_head + i) ≡ word l (at + record_head + i)
    along i = word-from l at (record_head + i) ∙ ap (word l) (sym (add_assoc at record_head i))
