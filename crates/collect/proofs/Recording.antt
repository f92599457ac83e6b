-- Records of stores while branches are collected.
use mathlib.Core.Path.{◌≡◌, refl, sym, ap, ◌∙◌, subst}
use mathlib.Core.Bool.{Bool, true, false, cond}
use mathlib.Core.List.{List, [], ◌∷◌, ◌++◌}
use Prim.Native.Nat.{ℕ, zero, suc, ◌+◌, ◌*◌, ◌-◌, ◌≤◌, ◌<◌}
use native.Mathlib.Nat.{le_refl, add-zero}
use native.Mathlib.Numerals.{add-one}
use native.Mathlib.Omega.{arith}
use lib.ListN.{length, get_or, length-append, get_or-append}
use lib.Seq.{sets, get_or-append-add}
use lib.IntN.{ℤ}
use Rattle.algebra.proofs.Blocks.{Writing, begin, again, block_in_lem}
use Rattle.channel.specs.Shared.{Shared}
use Rattle.channel.specs.Layout.{header_size, record_size, channels, record_words}
use Rattle.channel.proofs.Restore.{length-block}
use Rattle.collect.specs.Inner.Bank.{store_of, starts, stores_of, shared_of, record_of, records, Begun}

-- ---- one record
pub length_record : (d next s : ℕ) (b : Shared) → length (record_words (channels d) next s b) ≡ record_size (channels d)
length_record d next s b = omega (arith, length-block (channels d) b.num)

-- ---- the stores of the first branches
module _ (l : List ℤ) (at d : ℕ) where
  stores-step : (b : ℕ) (t : Bool) → starts l at d b ≡ t → stores_of l at d (b + 1) ≡ cond t (stores_of l at d b ++ (store_of l at d b ∷ [])) (stores_of l at d b)
  unfolding stores_of
  stores-step b t e = ap (stores_of l at d) (add-one b) ∙ ap (λ (t : Bool). cond t (stores_of l at d b ++ (store_of l at d b ∷ [])) (stores_of l at d b)) e

  pub no_stores : length (stores_of l at d 0) ≡ 0
  unfolding stores_of
  no_stores = refl

  pub stores-count : (b : ℕ) (t : Bool) → starts l at d b ≡ t → length (stores_of l at d (b + 1)) ≡ cond t (length (stores_of l at d b) + 1) (length (stores_of l at d b))
  stores-count b true e = ap length (stores-step b true e) ∙ length-append (stores_of l at d b) (store_of l at d b ∷ [])
  stores-count b false e = ap length (stores-step b false e)

  -- the stores of b branches are the first of those of b + k
  module _ (b : ℕ) where
    stores_grow : (k : ℕ) → length (stores_of l at d b) ≤ length (stores_of l at d (b + k))
    stores_grow zero = subst (λ (n : ℕ). length (stores_of l at d b) ≤ length (stores_of l at d n)) (sym (add-zero b)) (le_refl _)
    stores_grow (suc k) = go (starts l at d (b + k)) refl (stores_grow k)
      where
        next : b + k + 1 ≡ b + suc k
        next = omega arith

        go : (t : Bool) → starts l at d (b + k) ≡ t → length (stores_of l at d b) ≤ length (stores_of l at d (b + k)) → length (stores_of l at d b) ≤ length (stores_of l at d (b + suc k))
        go true e h = omega (arith, ap (λ (n : ℕ). length (stores_of l at d n)) next, stores-count (b + k) true e)
        go false e h = omega (arith, ap (λ (n : ℕ). length (stores_of l at d n)) next, stores-count (b + k) false e)

    stores-kept : (k j : ℕ) → j < length (stores_of l at d b) → get_or (stores_of l at d (b + k)) j 0 ≡ get_or (stores_of l at d b) j 0
    stores-kept zero j h = ap (λ (n : ℕ). get_or (stores_of l at d n) j 0) (add-zero b)
    stores-kept (suc k) j h = ap (λ (n : ℕ). get_or (stores_of l at d n) j 0) next ∙ go (starts l at d (b + k)) refl ∙ stores-kept k j h
      where
        next : b + suc k ≡ b + k + 1
        next = omega arith

        go : (t : Bool) → starts l at d (b + k) ≡ t → get_or (stores_of l at d (b + k + 1)) j 0 ≡ get_or (stores_of l at d (b + k)) j 0
        go true e = ap (λ (ss : List ℕ). get_or ss j 0) (stores-step (b + k) true e) ∙ get_or-append (stores_of l at d (b + k)) (store_of l at d (b + k) ∷ []) 0 j (omega (arith, stores_grow k))
        go false e = ap (λ (ss : List ℕ). get_or ss j 0) (stores-step (b + k) false e)

  -- a branch that starts a record: its place, and its store there
  module _ (b n : ℕ) (h : b < n) (e : starts l at d b ≡ true) where
    rest : b + 1 + (n - (b + 1)) ≡ n
    rest = omega arith

    pub started-place : length (stores_of l at d b) < length (stores_of l at d n)
    started-place = omega (arith, ap (λ (k : ℕ). length (stores_of l at d k)) rest, stores_grow (b + 1) (n - (b + 1)), stores-count b true e)

    pub started-store : get_or (stores_of l at d n) (length (stores_of l at d b)) 0 ≡ store_of l at d b
    started-store =
        ap (λ (k : ℕ). get_or (stores_of l at d k) (length (stores_of l at d b)) 0) (sym rest)
        ∙ stores-kept (b + 1) (n - (b + 1)) (length (stores_of l at d b)) (omega (arith, stores-count b true e))
        ∙ ap (λ (ss : List ℕ). get_or ss (length (stores_of l at d b)) 0) (stores-step b true e)
        ∙ ap (λ (k : ℕ). get_or (stores_of l at d b ++ (store_of l at d b ∷ [])) k 0) (sym (add-zero (length (stores_of l at d b))))
        ∙ get_or-append-add (stores_of l at d b) (store_of l at d b ∷ []) 0 0

-- the record that a branch starts lies in the room for all
pub record_room : {m : List ℤ} {n : ℕ} {l : List ℤ} {at d count b : ℕ} → Begun m n l at d count b → starts l at d b ≡ true → header_size + n * record_size (channels d) + record_size (channels d) ≤ length m
record_room {m} {n} {l} {at} {d} {count} {b} g e = by (record_size (channels d)) (length (stores_of l at d count)) (started-place l at d b count g.branch e) g.so_far g.room
  where
    by : (s k : ℕ) → length (stores_of l at d b) < k → n ≡ length (stores_of l at d b) → header_size + k * s ≤ length m → header_size + n * s + s ≤ length m
    by s k h q r = omega (arith, block_in_lem {i = n} {n = k} (omega arith) s)

-- ---- b branches are collected into q
pub record Collected (m l : List ℤ) (at d count : ℕ) (q : List ℤ) (n b : ℕ) : Type 0 where
  pub upto : b ≤ count
  pub so_far : n ≡ length (stores_of l at d b)
  pub writing : Writing (record_size (channels d)) m header_size (length (stores_of l at d count)) (records l at d count) q n

pub none-collected : (m l : List ℤ) (at d count : ℕ) → Collected m l at d count m 0 0
none-collected m l at d count = record { upto = omega arith; so_far = sym (no_stores l at d); writing = begin (λ k. sized k) }
  where
    sized : (k : ℕ) → length (records l at d count k) ≤ record_size (channels d)
    sized k = let s = get_or (stores_of l at d count) k 0 in omega (arith, length_record d 0 s (shared_of l at d count s))

module _ {m l : List ℤ} {at d count : ℕ} {q : List ℤ} {n b : ℕ} (g : Collected m l at d count q n b) where
  pub collected-more : b < count → {p : List ℤ} {k : ℕ} → k ≡ cond (starts l at d b) (n + 1) n → p ≡ cond (starts l at d b) (sets q (header_size + n * record_size (channels d)) (record_of l at d count (store_of l at d b))) q
      → Collected m l at d count p k (b + 1)
  collected-more h {p} {k} e f = go (starts l at d b) refl e f
    where
      go : (t : Bool) → starts l at d b ≡ t → k ≡ cond t (n + 1) n → p ≡ cond t (sets q (header_size + n * record_size (channels d)) (record_of l at d count (store_of l at d b))) q → Collected m l at d count p k (b + 1)
      go true u e f = record {
        upto = omega arith;
        so_far = e ∙ ap (λ (i : ℕ). i + 1) g.so_far ∙ sym (stores-count l at d b true u);
        writing = subst (Writing _ m header_size (length (stores_of l at d count)) (records l at d count) p) (sym e)
            (again g.writing (omega (arith, g.so_far, started-place l at d b count h u)) f (ap (record_of l at d count) (sym (started-store l at d b count h u) ∙ ap (λ (i : ℕ). get_or (stores_of l at d count) i 0) (sym g.so_far))));
      }
      go false u e f = record {
        upto = omega arith;
        so_far = e ∙ g.so_far ∙ sym (stores-count l at d b false u);
        writing = subst (Writing _ m header_size (length (stores_of l at d count)) (records l at d count) p) (sym e)
            (record { sized = g.writing.sized; count = g.writing.count; is = f ∙ g.writing.is });
      }
