-- What acceptance says of a circuit, and of the words of its channel.
use mathlib.Core.Path.{◌≡◌, refl, subst}
use mathlib.Core.Bool.{Bool, true, false}
use mathlib.Core.List.{List, []}
use Prim.Native.Nat.{ℕ, ◌+◌, ◌*◌, ◌^◌, ◌<◌, ◌≤◌, min}
use native.Mathlib.Nat.{mul_assoc, mul-le-mul, le_refl}
use native.Mathlib.Omega.{arith}
use lib.Dec.{leb}
use lib.Pow.{pow_pos}
use lib.ListN.{length, take, length-append}
use lib.Seq.{take-length}
use lib.IntN.{ℤ}
use borrow.Author.Tests.{leb-true, leb-false}
use Rattle.algebra.specs.Lists.{All, every, total, marks}
use Rattle.algebra.proofs.Totals.{sub_whole, sub_filter}
use Rattle.exact.specs.Exact as scalar
use Rattle.gate.specs.Gate.{Gate, gates_of, splits, weight, max_weight}
use Rattle.gate.specs.Inner.Entries.{valid}
use Rattle.gate.proofs.Bits.{Word}
use Rattle.kraus.specs.Branch.{Store, Branch, branches}
use Rattle.kraus.specs.Blocks.{alive, survivors, stores, block}
use Rattle.kraus.proofs.Counting.{stores-bits, store-count}
use Rattle.kraus.proofs.Limits.{Enough, kraus_exponent, circuit_enough, block-fits}
use Rattle.circuit.specs.declared.limits.Limits.{Limits}
use Rattle.circuit.specs.Limits.{ceilings}
use Rattle.circuit.specs.Footprint.{writes, footprint_of}
use Rattle.circuit.specs.Sizes.{result_words, work_words}
use Rattle.store.proofs.Bytes.{fits_word}
use Rattle.circuit.specs.Questions.{sizes_of}
use Rattle.circuit.specs.Inner.Small.{max_qubits, max_branches}
use Rattle.circuit.proofs.Products.{fourth_is}
use Rattle.channel.specs.Layout.{channels, side, header_size, record_size}
use Rattle.collect.specs.Delivered.{block_no, branches_words}
use Rattle.judge.specs.Delivered.{circuit_words}
use Rattle.judge.specs.Call.{accepts}
use Rattle.circuit.proofs.Known.{known}
use Rattle.channel.specs.Claims.{Writable}
use Rattle.channel.proofs.Written.{length-written}
use Rattle.judge.proofs.Writable.{survivors-writable}

-- ---- what the questions found
pub record Sound (n m : ℕ) (σ : List ℕ) (gs : List Gate) (result work : ℕ) : Type 0 where
  pub valid_gates : every (valid n m) gs ≡ true
  pub qubit_count : n ≤ 4
  pub bit_count_lem : m ≤ ceilings.max_classical_bits
  pub bytes : All (λ (v : ℕ). v < 2) σ
  pub byte_count : length σ ≡ m
  pub light : total weight gs ≤ max_weight
  pub branch_count : 2 ^ total splits gs ≤ max_branches
  pub room : result_words (2 ^ min (total splits gs) (marks m writes gs)) (2 ^ n) ≤ result
  pub work_room : work_words (2 ^ total splits gs) (2 ^ n) ≤ work

-- four qubits at most: one block of five does not fit the ceiling on cells
pub four : (n v x c : ℕ) → n ≤ max_qubits → 0 < v → v * (2 ^ n) ^ 4 + x ≤ c → c ≤ ceilings.max_matrix_cells → n ≤ 4
four n v x c h p q r = go (leb n 4) refl
  where
    go : (b : Bool) → leb n 4 ≡ b → n ≤ 4
    go true e = leb-true n 4 e
    go false e =
        let is : n ≡ max_qubits = omega (arith, leb-false n 4 e) in
        let big : v * (2 ^ max_qubits) ^ 4 + x ≤ c = subst (λ (k : ℕ). v * (2 ^ k) ^ 4 + x ≤ c) is q in
        absurd (omega arith)

module _ (n m : ℕ) (σ : List ℕ) (l : Limits) (ws : List ℕ) (r w : List ℤ) (e : accepts n m σ l ws r w ≡ true) where
  pub sound : Sound n m σ (gates_of ws) (length r) (length w)
  sound =
      let k = known n m σ l ws (length r) (length w) e in
      let sizes = sizes_of (footprint_of m (gates_of ws)) n in
      let low = k.low in
      let fit = k.sizes_within in
      let bytes = fits_word m σ k.store_fine in
      record {
        valid_gates = k.gates_fine;
        qubit_count = four n sizes.stores ((3 * sizes.branches + 8) * (2 ^ n) ^ 2) l.max_matrix_cells (omega (arith, fit.qubits_within, low.of_matrix.qubits_low)) (pow_pos _) fit.cells_within low.of_matrix.cells_low;
        bit_count_lem = omega (arith, fit.bits_within, low.bits_low);
        bytes = bytes.1;
        byte_count = bytes.0;
        light = k.light;
        branch_count = omega (arith, fit.branches_within, low.branches_low);
        room = k.result_room;
        work_room = k.work_room;
      }

-- ---- how long the words of branches are; at most v stores fit words that are counted for v
pub words_long : (d m : ℕ) (bs : List Branch) → length (branches_words d m bs) ≡ header_size + length (stores bs) * record_size (channels d)
words_long d m bs = let e = length-written (channels d) d m (length (stores bs)) (block_no d bs) [] in omega (arith, length-append (branches_words d m bs) [])

pub words-room : (d m : ℕ) (bs : List Branch) {v result : ℕ} → length (stores bs) ≤ v → result_words v d ≤ result → length (branches_words d m bs) ≤ result
words-room d m bs {v} {result} h r =
    let c : ℕ = length (stores bs) in
    let f : record_size (channels d) ≡ 4 + 4 * d ^ 4 = omega (arith, fourth_is d, mul_assoc (d * d) d d) in
    let g : c * record_size (channels d) ≤ v * (4 + 4 * d ^ 4) = subst (λ (x : ℕ). c * record_size (channels d) ≤ v * x) f (mul-le-mul h (le_refl (record_size (channels d)))) in
    omega (arith, words_long d m bs)

-- ---- the channel of such a circuit
module _ {n m : ℕ} {σ : List ℕ} {gs : List Gate} {result work : ℕ} (s : Sound n m σ gs result work) where
  abbrev d : ℕ
  d = 2 ^ n

  abbrev bs : List Branch
  bs = survivors (branches n σ gs)

  abbrev count : ℕ
  count = length (stores (survivors (branches n σ gs)))

  pub enough : (k : ℕ) → Enough kraus_exponent n (branches n σ (take k gs))
  enough = circuit_enough n m σ gs s.valid_gates s.light

  pub enough_all : Enough kraus_exponent n (branches n σ gs)
  enough_all = subst (λ (hs : List Gate). Enough kraus_exponent n (branches n σ hs)) (take-length gs) (enough (length gs))

  pub block_fine : (τ : Store) (i j : ℕ) → i < side (2 ^ n) → j < side (2 ^ n) → scalar.well_formed (block (survivors (branches n σ gs)) τ i j) ≡ true
  block_fine τ i j p q = (block-fits enough_all (sub_filter alive (sub_whole (branches n σ gs))) τ i j p q).well_formed_lem

  pub store_words : All (Word m) (stores (survivors (branches n σ gs)))
  store_words = subst (λ (k : ℕ). All (Word k) (stores bs)) s.byte_count (stores-bits n σ gs s.bytes)

  pub writable : Writable (channels (2 ^ n)) (2 ^ n) m (length (stores (survivors (branches n σ gs)))) (block_no (2 ^ n) (survivors (branches n σ gs)))
  writable = survivors-writable s.qubit_count s.bit_count_lem enough_all store_words

  -- the whole of it fits the result
  pub channel_room : length (circuit_words n m σ gs) ≤ result
  channel_room = words-room d m bs few s.room
    where
      few : count ≤ 2 ^ min (total splits gs) (marks m writes gs)
      few = subst (λ (k : ℕ). count ≤ 2 ^ min (total splits gs) (marks k writes gs)) s.byte_count (store-count n σ gs s.bytes)
