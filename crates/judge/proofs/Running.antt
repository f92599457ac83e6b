-- An accepted call: what is asked of its run, of its delivery and of its buffers, and what they leave.
use mathlib.Core.Path.{◌≡◌, refl, sym, ap, ◌∙◌, subst, subst₂}
use mathlib.Core.Bool.{Bool, true, false, cond}
use mathlib.Core.List.{List, [], ◌∷◌, ◌++◌}
use Prim.Native.Nat.{ℕ, zero, suc, ◌+◌, ◌*◌, ◌^◌, ◌≤◌, ◌<◌}
use native.Mathlib.Nat.{mul_comm, mul-le-mul}
use native.Mathlib.Decide.{dec_lt}
use native.Mathlib.Omega.{arith}
use lib.Pow.{pow_mono}
use lib.ListN.{length, drop, replicate, length-replicate}
use lib.IntN.{ℤ, pos}
use Rattle.algebra.specs.Lists.{every, total}
use Rattle.algebra.specs.Words.{fill_words, joined}
use Rattle.algebra.proofs.Blocks.{blocks_parts, written_over}
use Rattle.cells.specs.Cells.{cell_size}
use Rattle.gate.specs.Gate.{Gate, gates_of, splits}
use Rattle.gate.specs.Inner.Entries.{valid}
use Rattle.kraus.specs.Branch.{Branch, branches}
use Rattle.kraus.specs.Blocks.{survivors}
use Rattle.branches.specs.Inner.Bank.{slot_size, bank_words, Holds}
use Rattle.branches.specs.Inner.Run.{work_size, Runs, Ran}
use Rattle.circuit.specs.declared.limits.Limits.{Limits}
use Rattle.circuit.specs.Sizes.{work_words}
use Rattle.circuit.specs.Inner.Small.{max_splits, max_branches}
use Rattle.circuit.proofs.Products.{square_is}
use Rattle.collect.specs.Inner.Bank.{bank_in, Deliverable}
use Rattle.collect.specs.Delivered.{branches_words, overwritten}
use Rattle.collect.proofs.Held.{Held, circuit_held, bank_is, deliverable}
use Rattle.judge.specs.Delivered.{circuit_words}
use Rattle.judge.specs.Call.{accepts, result_after, work_after}
use Rattle.judge.proofs.Accepted.{Sound, sound, words_long, channel_room}
use Rattle.judge.specs.Inner.Accepted.{Accepted}

-- ---- zeros at the start of a buffer
abbrev zeroed : ℕ → List ℤ → List ℤ
zeroed k l = overwritten (replicate k (pos 0)) l

zeros-joined : (k : ℕ) → joined k (λ (i : ℕ). pos 0 ∷ []) ≡ replicate k (pos 0)
unfolding joined
zeros-joined zero = refl
zeros-joined (suc k) = ap (λ (l : List ℤ). l ++ (pos 0 ∷ [])) (zeros-joined k) ∙ more k
  where
    more : (k : ℕ) → replicate k (pos 0) ++ (pos 0 ∷ []) ≡ pos 0 ∷ replicate k (pos 0)
    more zero = refl
    more (suc k) = ap (λ (l : List ℤ). pos 0 ∷ l) (more k)

pub zeroed_is : (k : ℕ) (l : List ℤ) → k ≤ length l → fill_words l 0 k (λ (i : ℕ). pos 0) ≡ zeroed k l
zeroed_is k l h =
    let e : 0 + k * 1 ≡ length (replicate k (pos 0)) = omega (arith, length-replicate k (pos 0)) in
    blocks_parts 1 (λ (i : ℕ). pos 0 ∷ []) (λ i. refl) l 0 k (omega arith) ∙ (λ i. zeros-joined k i ++ drop (e i) l)

-- so many splits make the largest number of branches
pub at_most : (s : ℕ) → 2 ^ s ≤ max_branches → s ≤ max_splits
at_most s h = go (dec_lt max_splits s)
  where
    go : Dec (max_splits < s) → s ≤ max_splits
    go (yes p) = absurd (omega (arith, pow_mono {i = suc max_splits} {j = s} p))
    go (no p) = omega arith

module _ {n m : ℕ} {σ : List ℕ} {ws : List ℕ} {r w : List ℤ} (a : Accepted n m σ ws r w) where
  abbrev gs : List Gate
  gs = gates_of ws

  abbrev bs : List Branch
  bs = branches n σ gs

  known : Sound n m σ gs (length r) (length w)
  known = sound n m σ a.limits ws r w a.yes

  abbrev B : ℕ
  B = 2 ^ total splits gs

  pub few_qubits : n ≤ 4
  few_qubits = known.qubit_count

  pub few-splits : total splits (gates_of ws) ≤ max_splits
  few-splits = at_most (total splits gs) known.branch_count

  -- the words of work, as they are counted
  size_is : (d k : ℕ) → work_size d k ≡ work_words k d
  size_is d k = ap (λ (x : ℕ). (2 * k + 2) * (x + 2)) (mul_comm (d * d) cell_size ∙ ap (λ (x : ℕ). cell_size * x) (square_is d))

  fits : work_size (2 ^ n) B ≤ length w
  fits = subst (λ (k : ℕ). k ≤ length w) (sym (size_is (2 ^ n) B)) known.work_room

  accepted : every (valid n (length σ)) gs ≡ true
  accepted = subst (λ (k : ℕ). every (valid n k) gs ≡ true) (sym known.byte_count) known.valid_gates

  -- ---- d rows and k branches, as they are handed over
  module _ {d k : ℕ} (e : d ≡ 2 ^ n) (f : k ≡ 2 ^ total splits (gates_of ws)) where
    pub runs : Runs w ws σ n d k
    runs = record {
      few = omega (arith, known.qubit_count);
      dim = e;
      accepted = accepted;
      light = known.light;
      short = omega (arith, known.byte_count, known.bit_count_lem);
      bits = known.bytes;
      banked = f;
      room = subst₂ (λ (d k : ℕ). work_size d k ≤ length w) (sym e) (sym f) fits;
    }

    pub dim_small : d ≤ 16
    dim_small = omega (arith, pow_mono {i = n} {j = 4} few_qubits)

    pub count_small : k ≤ max_branches
    count_small = omega (arith, known.branch_count)

    -- ---- after the run: b is the work buffer, and the branches lie at `at`
    module _ {b : List ℤ} {at : ℕ} (ran : Ran w b ws σ n d k at) where
      held : Held b at n m bs
      held = subst (λ (k : ℕ). Held b at n k bs) known.byte_count
          (circuit_held n σ gs accepted known.bytes known.light (omega (arith, known.byte_count, known.bit_count_lem)) known.qubit_count known.branch_count
          (subst (λ (d : ℕ). Holds b at (bank_words d bs)) e ran.held))

      pub delivers : Deliverable r b at d m k
      delivers = subst₂ (λ (d k : ℕ). Deliverable r b at d m k) (sym e) ran.counted
          (deliverable held r (subst (λ (x : ℕ). x ≤ length r) (words_long (2 ^ n) m (survivors bs)) (channel_room known)))

      pub delivered : {q : List ℤ} → q ≡ overwritten (branches_words d m (survivors (bank_in b at d m k))) r → q ≡ overwritten (circuit_words n m σ (gates_of ws)) r
      delivered h =
          h ∙ (λ i. overwritten (branches_words (e i) m (survivors (bank_in b at (e i) m (sym ran.counted i)))) r)
          ∙ ap (λ (xs : List Branch). overwritten (branches_words (2 ^ n) m (survivors xs)) r) (bank_is held)

      module _ {size : ℕ} (g : size ≡ slot_size d) where
        used_is : (2 * k + 2) * size ≡ work_size d k
        used_is = ap (λ (x : ℕ). (2 * k + 2) * x) g

        pub used-small : (2 * k + 2) * size ≤ 130 * 1282
        used-small = let p : 2 * k + 2 ≤ 130 = omega (arith, count_small) in let q : size ≤ 1282 = omega (arith, mul-le-mul dim_small dim_small) in mul-le-mul p q

        pub used-room : (2 * k + 2) * size ≤ length b
        used-room = omega (arith, used_is, runs.room, ran.long)

        pub cleared : {c : List ℤ} → c ≡ fill_words b 0 ((2 * k + 2) * size) (λ (i : ℕ). pos 0) → c ≡ zeroed (work_words (2 ^ total splits (gates_of ws)) (2 ^ n)) w
        cleared h =
            h ∙ ap (λ (x : ℕ). fill_words b 0 x (λ (i : ℕ). pos 0)) used_is
            ∙ written_over w b (work_size d k) (λ (i : ℕ). pos 0) runs.room (record { long = ran.long; word = λ i p q. ran.kept i p })
            ∙ zeroed_is (work_size d k) w runs.room ∙ ap (λ (x : ℕ). zeroed x w) ((λ i. work_size (e i) (f i)) ∙ size_is (2 ^ n) B)

-- ---- what a call leaves, accepted or refused
pub chosen : {A : Type 0} (x y : A) {b : Bool} → b ≡ true → {q : A} → q ≡ x → q ≡ cond b x y
chosen x y e h = h ∙ sym (ap (λ (b : Bool). cond b x y) e)

pub unchosen : {A : Type 0} (x y : A) {b : Bool} → b ≡ false → y ≡ cond b x y
unchosen x y e = sym (ap (λ (b : Bool). cond b x y) e)

module _ (n m : ℕ) (σ : List ℕ) (l : Limits) (ws : List ℕ) (r w : List ℤ) where
  abbrev written : List ℤ
  written = overwritten (circuit_words n m σ (gates_of ws)) r

  abbrev wiped : List ℤ
  wiped = zeroed (work_words (2 ^ total splits (gates_of ws)) (2 ^ n)) w

  pub result_accepted : accepts n m σ l ws r w ≡ true → {q : List ℤ} → q ≡ overwritten (circuit_words n m σ (gates_of ws)) r → q ≡ result_after n m σ l ws r w
  result_accepted e h = chosen written r e h

  pub work_accepted : accepts n m σ l ws r w ≡ true → {q : List ℤ} → q ≡ zeroed (work_words (2 ^ total splits (gates_of ws)) (2 ^ n)) w → q ≡ work_after n m σ l ws r w
  work_accepted e h = chosen wiped w e h

  pub result_refused : accepts n m σ l ws r w ≡ false → r ≡ result_after n m σ l ws r w
  result_refused e = unchosen written r e

  pub work_refused : accepts n m σ l ws r w ≡ false → w ≡ work_after n m σ l ws r w
  work_refused e = unchosen wiped w e
