-- What is known once questions were answered yes: of low limits, of sizes within limits, and of an accepted circuit.
use Rattle.std.specs.Prelude.{is_ok}
use mathlib.Core.Path.{◌≡◌, sym, ◌∙◌}
use mathlib.Core.Bool.{true, ◌&&◌}
use mathlib.Core.List.{List}
use Prim.Native.Nat.{ℕ, ◌/◌, ◌%◌, ◌≤◌}
use lib.Dec.{eqb, leb}
use lib.ListN.{length}
use borrow.Author.Tests.{leb-true}
use Rattle.algebra.specs.Lists.{every, total}
use Rattle.algebra.proofs.Tests.{and_split}
use Rattle.verdict.proofs.Questions.{yes, every_append}
use Rattle.gate.specs.declared.judge.Asking.TheVariants.{Channel}
use Rattle.gate.specs.Gate.{gate_size, gates_of, weight, max_weight}
use Rattle.gate.specs.Inner.Entries.{valid}
use Rattle.store.specs.Store.{store_fits}
use Rattle.circuit.specs.declared.limits.Limits.{Limits}
use Rattle.circuit.specs.declared.footprint.Footprint.{Footprint}
use Rattle.circuit.specs.declared.sizes.Sizes.{Sizes}
use Rattle.circuit.specs.Limits.{ceilings, matrix_ceilings, branch_ceilings}
use Rattle.circuit.specs.Footprint.{footprint_of}
use Rattle.circuit.specs.Sizes.{cells_needed, terms_needed, result_words, work_words}
use Rattle.circuit.specs.Questions.{gates_questions, sizes_of, within_limits, room_for, number_questions, channel_questions, channel_verdict}
use Rattle.circuit.specs.Inner.Small.{max_branches, max_qubits, max_gates}
use Rattle.circuit.proofs.Answers.{gates-valid, channel_accepts}

-- ---- question 1
-- the limits that `circuit_unitary` reads
pub record MatrixLow (l : Limits) : Type 0 where
  pub qubits_low : l.max_qubits ≤ max_qubits
  pub cells_low : l.max_matrix_cells ≤ ceilings.max_matrix_cells
  pub terms_low : l.max_multiply_terms ≤ ceilings.max_multiply_terms
  pub operations_low : l.max_operations ≤ max_gates

pub matrix_low : (l : Limits) → matrix_ceilings l ≡ true → MatrixLow l
matrix_low l e =
    let a = and_split (leb l.max_qubits ceilings.max_qubits) _ e in
    let b = and_split (leb l.max_matrix_cells ceilings.max_matrix_cells) _ a.1 in
    let c = and_split (leb l.max_multiply_terms ceilings.max_multiply_terms) _ b.1 in
    record {
      qubits_low = leb-true _ _ a.0;
      cells_low = leb-true _ _ b.0;
      terms_low = leb-true _ _ c.0;
      operations_low = leb-true _ _ c.1;
    }

-- all limits
pub record Low (l : Limits) : Type 0 where
  pub of_matrix : MatrixLow l
  pub branches_low : l.max_branches ≤ max_branches
  pub bits_low : l.max_classical_bits ≤ ceilings.max_classical_bits

pub all-low : (l : Limits) → (matrix_ceilings l && branch_ceilings l) ≡ true → Low l
all-low l e =
    let a = and_split (matrix_ceilings l) (branch_ceilings l) e in
    let b = and_split (leb l.max_branches ceilings.max_branches) _ a.1 in
    record { of_matrix = matrix_low l a.0; branches_low = leb-true _ _ b.0; bits_low = leb-true _ _ b.1 }

-- ---- question 8, of so many branches, cells and terms
pub record Within (n m branches cells terms : ℕ) (l : Limits) : Type 0 where
  pub bits_within : m ≤ l.max_classical_bits
  pub branches_within : branches ≤ l.max_branches
  pub qubits_within : n ≤ l.max_qubits
  pub cells_within : cells ≤ l.max_matrix_cells
  pub terms_within : terms ≤ l.max_multiply_terms

pub within : (n m branches cells terms : ℕ) (l : Limits)
    → (leb m l.max_classical_bits && (leb branches l.max_branches && (leb n l.max_qubits && (leb cells l.max_matrix_cells && leb terms l.max_multiply_terms)))) ≡ true
    → Within n m branches cells terms l
within n m branches cells terms l e =
    let a = and_split (leb m l.max_classical_bits) _ e in
    let b = and_split (leb branches l.max_branches) _ a.1 in
    let c = and_split (leb n l.max_qubits) _ b.1 in
    let d = and_split (leb cells l.max_matrix_cells) _ c.1 in
    record {
      bits_within = leb-true _ _ a.0;
      branches_within = leb-true _ _ b.0;
      qubits_within = leb-true _ _ c.0;
      cells_within = leb-true _ _ d.0;
      terms_within = leb-true _ _ d.1;
    }

-- ---- all questions of `circuit_channel`
module _ (n m : ℕ) (σ : List ℕ) (l : Limits) (ws : List ℕ) (result work : ℕ) where
  abbrev foot : Footprint
  foot = footprint_of m (gates_of ws)

  abbrev sizes : Sizes
  sizes = sizes_of foot n

  pub record Known : Type 0 where
    pub low : Low l
    pub few : length ws / gate_size ≤ l.max_operations
    pub gates_fine : every (valid n m) (gates_of ws) ≡ true
    pub store_fine : store_fits m σ ≡ true
    pub sizes_within : Within n m sizes.branches (cells_needed sizes.branches sizes.stores sizes.rows) (terms_needed foot.gates sizes.branches sizes.rows) l
    pub light : total weight (gates_of ws) ≤ max_weight
    pub result_room : result_words sizes.stores sizes.rows ≤ result
    pub work_room : work_words sizes.branches sizes.rows ≤ work

  pub known : is_ok (channel_verdict n m σ l ws result work) ≡ true → Known
  known e =
      let gates = gates_questions (Channel m) n 0 (gates_of ws) in
      let all : every yes (channel_questions n m σ l ws result work) ≡ true = sym (channel_accepts n m σ l ws result work) ∙ e in
      let q1 = and_split (matrix_ceilings l && branch_ceilings l) _ all in
      let q2 = and_split (eqb (length ws % gate_size) 0) _ q1.1 in
      let q3 = and_split (leb (length ws / gate_size) l.max_operations) _ q2.1 in
      let q6 = and_split (every yes gates) _ (sym (every_append gates (number_questions foot n m σ l result work)) ∙ q3.1) in
      let q7 = and_split (store_fits m σ) _ q6.1 in
      let q8 = and_split (within_limits foot n m l) _ q7.1 in
      let q9 = and_split (leb (total weight (gates_of ws)) max_weight) _ q8.1 in
      let q10 = and_split (room_for sizes result work) _ q9.1 in
      let room = and_split (leb (result_words sizes.stores sizes.rows) result) _ q10.0 in
      record {
        low = all-low l q1.0;
        few = leb-true _ _ q3.0;
        gates_fine = sym (gates-valid n m 0 (gates_of ws)) ∙ q6.0;
        store_fine = q7.0;
        sizes_within = within n m sizes.branches (cells_needed sizes.branches sizes.stores sizes.rows) (terms_needed foot.gates sizes.branches sizes.rows) l q8.0;
        light = leb-true _ _ q9.0;
        result_room = leb-true _ _ room.0;
        work_room = leb-true _ _ room.1;
      }
