-- An accepted call: what is asked of its run, of its delivery and of its buffers, and what they leave.
use mathlib.Core.Path.{◌≡◌, sym, ap, ◌∙◌, subst, subst₂}
use mathlib.Core.Bool.{true, false}
use mathlib.Core.List.{List}
use Prim.Native.Nat.{ℕ, ◌+◌, ◌*◌, ◌/◌, ◌^◌, ◌≤◌, ◌<◌}
use native.Mathlib.Nat.{mul_assoc, add-mul, mul-le-mul, le_refl, le_trans}
use native.Mathlib.Omega.{arith}
use lib.ListN.{length, replicate, take}
use Rattle.std.proofs.lemmas.List.{length-take-le}
use lib.IntN.{ℤ, pos}
use Rattle.algebra.specs.Lists.{All, total}
use Rattle.algebra.specs.Words.{fill_words}
use Rattle.algebra.proofs.Blocks.{written_over}
use Rattle.cells.specs.Cells.{cell_size}
use Rattle.gate.specs.Gate.{gate_size, gate_at}
use Rattle.kraus.specs.Branch.{Branch}
use Rattle.kraus.specs.Blocks.{survivors}
use Rattle.branches.specs.Inner.Bank.{branch_size, bank_words, Holds}
use Rattle.circuit.specs.declared.limits.Limits.{Limits}
use Rattle.circuit.specs.Inner.Small.{max_splits}
use Rattle.circuit.proofs.Products.{square_is}
use Rattle.collect.specs.Inner.Bank.{bank_in, Deliverable}
use Rattle.collect.specs.Delivered.{branches_words, overwritten}
use Rattle.collect.proofs.Held.{Held, bank_is, deliverable}
use Rattle.judge.proofs.Accepted.{words_long}
use Rattle.judge.proofs.Running.{zeroed_is, at_most, chosen, unchosen}
use Rattle.pauli_nodes.specs.Nodes.{Node}
use Rattle.pauli_nodes.specs.Operations.{axis, Operation, bits, splits}
use Rattle.pauli_nodes.specs.Inner.Masks.{Mask, ref_mask, node_masks}
use Rattle.pauli_words.specs.Words.{nodes_of, operation_of, operations_of}
use Rattle.pauli_words.specs.Questions.{number_of}
use Rattle.pauli_words.specs.Inner.Masks.{max_nodes}
use Rattle.pauli_judge.specs.Footprint.{named}
use Rattle.pauli_judge.specs.Sizes.{program_work}
use Rattle.pauli_program.specs.Program.{program_branches}
use Rattle.pauli_program.proofs.Counting.{program_count, program_square}
use Rattle.branches.specs.Inner.Run.{banks_size}
use Rattle.pauli_run.specs.Inner.Run.{Runs, Ran}
use Rattle.pauli.specs.Delivered.{program_words}
use Rattle.pauli.specs.Call.{worked, accepts, result_after, work_after}
use Rattle.pauli.specs.Known.{Known}
use Rattle.pauli.specs.Inner.Accepted.{Accepted}
use Rattle.pauli.proofs.Operations.{operation_fits, operation_placed}
use Rattle.pauli.proofs.Known.{Listed, accepted_known, accepted_listed}
use Rattle.pauli.proofs.Branches.{enough_all, branch-words, channel_room}

-- a run fits the words that are counted for it
run_fits : (N b d : ℕ) → banks_size d b ≤ program_work N b d
run_fits N b d = omega (arith, mul-le-mul (le_refl (2 * b)) narrower, mul_assoc 2 b (branch_size d), add-mul (2 * b) (N + 2) x)
  where
    x : ℕ
    x = cell_size * d ^ 2 + 3

    narrower : branch_size d ≤ x
    narrower = omega (arith, square_is d)

module _ {n m : ℕ} {σ ns os : List ℕ} {r w : List ℤ} (a : Accepted n m σ ns os r w) where
  abbrev nodes : List Node
  nodes = nodes_of ns

  abbrev us : List Operation
  us = operations_of os

  abbrev bs : List Branch
  bs = program_branches n nodes σ us

  known : Known n m σ ns os (length r) (length w)
  known = accepted_known n m σ a.limits ns os r w a.yes

  listed : Listed n m ns os
  listed = accepted_listed n m σ a.limits ns os r w a.yes

  pub few_qubits : n ≤ 4
  few_qubits = known.qubit_count

  pub few-splits : total splits (operations_of os) ≤ max_splits
  few-splits = at_most (total splits us) known.branch_count

  pub few-named : named n (operations_of os) ≤ max_nodes
  few-named = listed.named_few

  pub few-nodes : number_of n (length ns / gate_size) ≤ max_nodes
  few-nodes = omega (arith, listed.few, known.qubit_count)

  -- ---- d rows and k branches, as they are handed over
  module _ {d k : ℕ} (e : d ≡ 2 ^ n) (f : k ≡ 2 ^ total splits (operations_of os)) where
    run_room : banks_size d k ≤ worked n m os
    run_room = subst₂ (λ (d k : ℕ). banks_size d k ≤ worked n m os) (sym e) (sym f) (run_fits (named n us) (2 ^ total splits us) (2 ^ n))

    pub runs : (ms : List Mask) {c : ℕ} → c ≡ number_of n (length ns / gate_size) → number_of n (length ns / gate_size) ≤ length ms
        → take (number_of n (length ns / gate_size)) ms ≡ node_masks n (nodes_of ns) → Runs w os (take c ms) σ n d k (nodes_of ns)
    runs ms {c} g room held = record {
      sound = known.sound;
      dim = e;
      light = known.light;
      short = omega (arith, known.byte_count, known.bit_count_lem);
      bytes = known.bytes;
      few = omega (arith, few-splits);
      banked = f;
      room = le_trans run_room known.work_room;
      fits = λ i h. operation_fits n m ns os listed.operations_yes i h (omega (arith, g, length-take-le c ms (omega arith))) (omega (arith, few-splits));
      masks = λ i h. ap (λ (ms : List Mask). ref_mask ms (axis (operation_of (gate_at os (i * gate_size))))) (ap (λ (j : ℕ). take j ms) g ∙ held);
      placed = λ i h. subst (λ (k : ℕ). All (λ (b : ℕ). b < k) (bits (operation_of (gate_at os (i * gate_size))))) (sym known.byte_count) (operation_placed n m ns os listed.operations_yes i h);
    }

    -- ---- after the run: b is the work buffer, and the branches lie at `at`
    module _ {b : List ℤ} {at : ℕ} (ran : Ran w b os σ n d k at (nodes_of ns)) where
      counted : length bs ≡ k
      counted = program_count n nodes σ us ∙ sym f

      held : Held b at n m bs
      held = record {
        words = subst (λ (d : ℕ). Holds b at (bank_words d bs)) e ran.held;
        square = program_square n nodes σ us;
        bits = branch-words known;
        narrow = known.bit_count_lem;
        small = known.qubit_count;
        few = omega (arith, program_count n nodes σ us, known.branch_count);
        enough = enough_all known;
      }

      pub delivers : Deliverable r b at d m k
      delivers = subst₂ (λ (d k : ℕ). Deliverable r b at d m k) (sym e) counted
          (deliverable held r (subst (λ (x : ℕ). x ≤ length r) (words_long (2 ^ n) m (survivors bs)) (channel_room known)))

      pub delivered : {q : List ℤ} → q ≡ overwritten (branches_words d m (survivors (bank_in b at d m k))) r → q ≡ overwritten (program_words n m σ (nodes_of ns) (operations_of os)) r
      delivered h =
          h ∙ (λ i. overwritten (branches_words (e i) m (survivors (bank_in b at (e i) m (sym counted i)))) r)
          ∙ ap (λ (xs : List Branch). overwritten (branches_words (2 ^ n) m (survivors xs)) r) (bank_is held)

      -- the words that were counted
      module _ {used : ℕ} (g : used ≡ worked n m os) where
        pub used-room : used ≤ length b
        used-room = subst₂ (λ (x y : ℕ). x ≤ y) (sym g) (sym ran.long) known.work_room

        pub cleared : {c : List ℤ} → c ≡ fill_words b 0 used (λ (i : ℕ). pos 0) → c ≡ overwritten (replicate (worked n m os) (pos 0)) w
        cleared h =
            h ∙ ap (λ (x : ℕ). fill_words b 0 x (λ (i : ℕ). pos 0)) g
            ∙ written_over w b (worked n m os) (λ (i : ℕ). pos 0) known.work_room (record { long = ran.long; word = λ i p q. ran.kept i (le_trans run_room p) })
            ∙ zeroed_is (worked n m os) w known.work_room

-- ---- what a call leaves, accepted or refused
module _ (n m : ℕ) (σ : List ℕ) (l : Limits) (ns os : List ℕ) (r w : List ℤ) where
  abbrev written : List ℤ
  written = overwritten (program_words n m σ (nodes_of ns) (operations_of os)) r

  abbrev wiped : List ℤ
  wiped = overwritten (replicate (worked n m os) (pos 0)) w

  pub accepted_leaves : accepts n m σ l ns os r w ≡ true → {q x : List ℤ} → q ≡ overwritten (program_words n m σ (nodes_of ns) (operations_of os)) r → x ≡ overwritten (replicate (worked n m os) (pos 0)) w
      → (q ≡ result_after n m σ l ns os r w) × (x ≡ work_after n m σ l ns os r w)
  accepted_leaves e h k = (chosen written r e h, chosen wiped w e k)

  pub refused_leaves : accepts n m σ l ns os r w ≡ false → (r ≡ result_after n m σ l ns os r w) × (w ≡ work_after n m σ l ns os r w)
  refused_leaves e = (unchosen written r e, unchosen wiped w e)
