-- A bank that holds the branches of a circuit is read as those branches, and their channel can be delivered.
use mathlib.Core.Path.{◌≡◌, refl, sym, ap, ◌∙◌, subst, subst₂}
use mathlib.Core.Bool.{true}
use mathlib.Core.List.{List, [], ◌∷◌, ◌++◌, map, foldl}
use Prim.Native.Nat.{ℕ, zero, suc, ◌+◌, ◌*◌, ◌^◌, ◌≤◌, ◌<◌}
use native.Mathlib.Nat.{zero-add, mul_comm}
use native.Mathlib.Omega.{arith}
use lib.Pow.{pow_mono}
use lib.ListN.{length, get_or, take, drop}
use lib.Seq.{ext_get_or, take-suc, take-length}
use lib.IntN.{ℤ}
use Rattle.algebra.specs.Words.{from_bits}
use Rattle.algebra.specs.Lists.{All, every, total, filter_by}
use Rattle.algebra.proofs.Lists.{all_get_d, all_map, all_concat}
use Rattle.algebra.proofs.Totals.{sub_whole, sub_filter, sub_take}
use Rattle.algebra.proofs.Bits.{bits_below, bits_parts}
use Rattle.exact.specs.Exact.{exact}
use Rattle.exact.specs.Inner.Sizes.{Room, room_exponent}
use Rattle.gate.specs.Gate.{Gate, weight, splits, max_weight}
use Rattle.gate.specs.Inner.Entries.{valid}
use Rattle.gate.proofs.Bits.{Word}
use Rattle.kraus.specs.Branch.{Store, Branch, KrausOperator, apply, start, operators_of, gate_step, branches}
use Rattle.kraus.specs.Blocks.{alive, survivors, having, block, stores}
use Rattle.kraus.proofs.Dense.{tabulate-length, tabulate-at}
use Rattle.kraus.proofs.Counting.{branch_count, branches-bits}
use Rattle.kraus.proofs.Limits.{Kraus, Enough, kraus_exponent, circuit_enough}
use Rattle.store.specs.Inner.Held.{Bits}
use Rattle.branches.specs.Inner.Bank.{bank_words, Holds}
use Rattle.branches.proofs.Banks.{bank-room, bank_held, bank_factors, bank-low, bank_high, store_at}
use Rattle.store.specs.Store.{bits, store_from}
use Rattle.channel.specs.Layout.{header_size, record_size, channels}
use Rattle.collect.specs.Inner.Bank.{entry, store_of, overlaps, bank_in, Bank, Deliverable}
use Rattle.store.proofs.Bytes.{bits-word}
use Rattle.collect.proofs.Branching.{branch_in, block_is, store-count}

-- the branches bs of a circuit on n qubits with m bits, in a bank at `at` of l
pub record Held (l : List ℤ) (at n m : ℕ) (bs : List Branch) : Type 0 where
  pub words : Holds l at (bank_words (2 ^ n) bs)
  pub square : All (λ (b : Branch). length b.matrix ≡ 2 ^ n * 2 ^ n) bs
  pub bits : All (λ (b : Branch). Word m b.store) bs
  pub narrow : m ≤ 64
  pub small : n ≤ 4
  pub few : length bs ≤ 64
  pub enough : Enough kraus_exponent n bs

-- ---- the branches of a circuit
any : {A : Type 0} (P : A → Type 0) → ((a : A) → P a) → (xs : List A) → All P xs
any P f [] = tt
any P f (x ∷ xs) = (f x, any P f xs)

module _ (n : ℕ) where
  abbrev Square : Branch → Type 0
  Square b = length b.matrix ≡ 2 ^ n * 2 ^ n

  run_square : (gs : List Gate) (bs : List Branch) → All Square bs → All Square (foldl (gate_step n) bs gs)
  run_square [] bs h = h
  run_square (g ∷ gs) bs h =
      run_square gs (gate_step n bs g)
      (all_concat Square Square (λ (b : Branch). map (apply n b) (operators_of n g)) (λ b k.
      all_map (λ (K : KrausOperator). Unit {0}) Square (apply n b) (λ K u. tabulate-length (2 ^ n * 2 ^ n) 0 _) (operators_of n g) (any (λ (K : KrausOperator). Unit {0}) (λ K. tt) (operators_of n g))) bs h)

pub branches_square : (n : ℕ) (σ : Store) (gs : List Gate) → All (λ (b : Branch). length b.matrix ≡ 2 ^ n * 2 ^ n) (branches n σ gs)
branches_square n σ gs = run_square n gs (start n σ) (tabulate-length (2 ^ n * 2 ^ n) 0 _, tt)

-- an accepted circuit's branches in a bank
pub circuit_held : {l : List ℤ} {at : ℕ} (n : ℕ) (σ : Store) (gs : List Gate) → every (valid n (length σ)) gs ≡ true → Bits σ → total weight gs ≤ max_weight → length σ ≤ 64 → n ≤ 4 → 2 ^ total splits gs ≤ 64
    → Holds l at (bank_words (2 ^ n) (branches n σ gs)) → Held l at n (length σ) (branches n σ gs)
circuit_held n σ gs ok bits light narrow small few holds = record {
  words = holds;
  square = branches_square n σ gs;
  bits = branches-bits n σ gs bits;
  narrow = narrow;
  small = small;
  few = omega (arith, branch_count n σ gs);
  enough = subst (λ (hs : List Gate). Enough kraus_exponent n (branches n σ hs)) (take-length gs) (circuit_enough n (length σ) σ gs ok light (length gs));
}

-- ---- what a bank that holds them is read as
module _ {l : List ℤ} {at n m : ℕ} {bs : List Branch} (h : Held l at n m bs) where
  abbrev d : ℕ
  d = 2 ^ n

  -- branch j, and what is read past the end
  abbrev z : Branch
  z = record { matrix = []; store = [] }

  abbrev at_place : ℕ → Branch
  at_place j = get_or bs j z

  module _ (j : ℕ) (hj : j < length bs) where
    word_of : Word m (at_place j).store
    word_of = all_get_d (λ (b : Branch). Word m b.store) bs h.bits j hj z

    bits_of : Bits (at_place j).store
    bits_of = word_of.1

    store_is : store_of l at d j ≡ from_bits (at_place j).store
    store_is =
        (λ i. store_from (bank-low d bs h.words z j hj i) (bank_high d bs h.words z j hj i))
        ∙ ap (λ (k : ℕ). from_bits (take 32 (at_place j).store) + k) (mul_comm (from_bits (drop 32 (at_place j).store)) (2 ^ 32)) ∙ sym (bits_parts 32 (at_place j).store)

    store_below : store_of l at d j < 2 ^ m
    store_below = subst₂ (λ (x k : ℕ). x < 2 ^ k) (sym store_is) word_of.0 (bits_below (at_place j).store bits_of)

    kraus_of : (i : ℕ) → i < d * d → Kraus kraus_exponent (get_or (at_place j).matrix i exact.𝟘)
    kraus_of = all_get_d (λ (b : Branch). (i : ℕ) → i < d * d → Kraus kraus_exponent (get_or b.matrix i exact.𝟘)) bs h.enough.entries j hj z

    entry_of : (i : ℕ) → i < d * d → entry l at d j i ≡ get_or (at_place j).matrix i exact.𝟘
    entry_of = bank_held d bs h.words z j hj kraus_of

    branch_is : branch_in l at d m j ≡ at_place j
    branch_is =
        let e : length (at_place j).matrix ≡ d * d = all_get_d (λ (b : Branch). length b.matrix ≡ d * d) bs h.square j hj z in
        let mat = ext_get_or exact.𝟘 (branch_in l at d m j).matrix (at_place j).matrix (tabulate-length (d * d) 0 (entry l at d j) ∙ sym e)
        (λ i p. let q : i < d * d = omega (arith, tabulate-length (d * d) 0 (entry l at d j)) in tabulate-at (d * d) 0 (entry l at d j) exact.𝟘 i q ∙ ap (entry l at d j) (zero-add i) ∙ entry_of i q) in
        let st = ap (bits m) store_is ∙ bits-word m (at_place j).store word_of in
        λ i. record { matrix = mat i; store = st i }

  -- the first k branches
  bank-first : (k : ℕ) → k ≤ length bs → bank_in l at d m k ≡ take k bs
  unfolding bank_in
  bank-first zero p = refl
  bank-first (suc k) p = (λ i. bank-first k (omega arith) i ++ (branch_is k (omega arith) i ∷ [])) ∙ sym (take-suc bs k z (omega arith))

  pub bank_is : bank_in l at (2 ^ n) m (length bs) ≡ bs
  bank_is = bank-first (length bs) (omega arith) ∙ take-length bs

  sums-of : (b j r c : ℕ) → b < length bs → j ≤ length bs → r < d * d → c < d * d → Room room_exponent (overlaps l at d j (store_of l at d b) r c)
  sums-of b j r c hb hj hr hc =
      let τ = bits m (store_of l at d b) in
      let xs = survivors (take j bs) in
      let f = h.enough.blocks (filter_by (having τ) xs) (sub_filter (having τ) (sub_filter alive (sub_take j (sub_whole bs)))) r c hr hc in
      let e : block xs τ r c ≡ overlaps l at d j (store_of l at d b) r c =
      ap (λ (ys : List Branch). block (survivors ys) τ r c) (sym (bank-first j hj)) ∙ block_is l at d m (length bs) (λ i p. store_below i p) j (store_of l at d b) r c hj (store_below b hb) hr hc in
      subst (Room room_exponent) e (f.room room_exponent (omega arith))

  pub held_bank : Bank l at (2 ^ n) (length bs)
  held_bank = record {
    dim = pow_mono {i = n} {j = 4} h.small;
    few = h.few;
    room = bank-room d bs h.words;
    stores = λ j hj. store_at d bs h.words z j hj (bits_of j hj) (omega (arith, (word_of j hj).0, h.narrow));
    entries = λ j hj. bank_factors d bs h.words z j hj (kraus_of j hj) (omega arith);
    sums = sums-of;
  }

  -- with room for a record for each store
  pub deliverable : (result : List ℤ) → header_size + length (stores (survivors bs)) * record_size (channels (2 ^ n)) ≤ length result → Deliverable result l at (2 ^ n) m (length bs)
  deliverable result room = record {
    bank = held_bank;
    bits = store_below;
    room = subst (λ (k : ℕ). header_size + k * record_size (channels d) ≤ length result) (sym (store-count l at d m (length bs) store_below ∙ ap (λ (ys : List Branch). length (stores (survivors ys))) bank_is)) room;
  }
