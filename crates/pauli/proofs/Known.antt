-- What acceptance says of a program holds.
use Rattle.std.specs.Prelude.{is_ok}
use mathlib.Core.Path.{◌≡◌, sym, ◌∙◌}
use mathlib.Core.Bool.{true, ◌&&◌}
use mathlib.Core.List.{List}
use Prim.Native.Nat.{ℕ, ◌+◌, ◌*◌, ◌/◌, ◌%◌, ◌^◌, ◌≤◌, min}
use native.Mathlib.Omega.{arith}
use lib.Dec.{eqb, leb, ltb}
use lib.Pow.{pow_pos}
use lib.ListN.{length}
use lib.IntN.{ℤ}
use borrow.Author.Tests.{leb-true}
use Rattle.algebra.specs.Lists.{every}
use Rattle.algebra.proofs.Tests.{and_split}
use Rattle.algebra.proofs.Lists.{all_imp}
use Rattle.verdict.specs.Questions.{first_no}
use Rattle.verdict.proofs.Questions.{yes, every_append, all_yes}
use Rattle.store.specs.Store.{store_fits}
use Rattle.store.proofs.Bytes.{fits_word}
use Rattle.gate.specs.Gate.{gate_size, gates_of, max_weight}
use Rattle.circuit.specs.declared.limits.Limits.{Limits}
use Rattle.circuit.specs.declared.sizes.Sizes.{Sizes}
use Rattle.circuit.specs.Limits.{ceilings, matrix_ceilings, branch_ceilings}
use Rattle.circuit.specs.Sizes.{result_words}
use Rattle.circuit.specs.Questions.{sizes_of}
use Rattle.judge.proofs.Accepted.{four}
use Rattle.pauli_nodes.specs.Nodes.{hermitian, axis_matrix}
use Rattle.pauli_nodes.specs.Operations.{Operation, axis}
use Rattle.pauli_words.specs.Words.{nodes_of, operations_of}
use Rattle.pauli_words.specs.Inner.Masks.{max_nodes}
use Rattle.pauli_words.specs.Questions.{number_of, axis_fits, nodes_questions, operations_questions}
use Rattle.pauli_judge.specs.declared.footprint.ProgramFootprint.{ProgramFootprint}
use Rattle.pauli_judge.specs.Footprint.{named, program_footprint}
use Rattle.pauli_judge.specs.Sizes.{program_cells, program_terms}
use Rattle.pauli_judge.specs.Questions.{max_listed, few_operations, program_within, program_room, program_word_questions, program_number_questions, pauli_questions}
use Rattle.pauli_judge.proofs.Accepted.{nodes-placed, axes_fit, words_known}
use Rattle.circuit.proofs.Known.{all-low, within}
use Rattle.pauli.specs.Call.{accepts}
use Rattle.pauli.specs.Known.{Known, AcceptedKnown}
use Rattle.pauli.proofs.Operations.{all_eighths}

-- what the questions of the words answered
pub record Listed (n m : ℕ) (ns os : List ℕ) : Type 0 where
  pub few : length ns / gate_size ≤ max_listed
  pub nodes_yes : is_ok (first_no (nodes_questions n 0 (gates_of ns))) ≡ true
  pub operations_yes : every yes (operations_questions (axis_fits n (nodes_of ns)) m 0 0 (gates_of os)) ≡ true
  pub named_few : named n (operations_of os) ≤ max_nodes

module _ (n m : ℕ) (σ : List ℕ) (l : Limits) (ns os : List ℕ) (result work : ℕ) where
  abbrev f : ProgramFootprint
  f = program_footprint n m (operations_of os)

  abbrev sizes : Sizes
  sizes = sizes_of f.counts n

  pub program_accepts : is_ok (first_no (pauli_questions n m σ l ns os result work)) ≡ every yes (pauli_questions n m σ l ns os result work)
  program_accepts = all_yes tt (pauli_questions n m σ l ns os result work)

  known : every yes (pauli_questions n m σ l ns os result work) ≡ true → Known n m σ ns os result work × Listed n m ns os
  known all =
      let nodes = nodes_questions n 0 (gates_of ns) in
      let operations = operations_questions (axis_fits n (nodes_of ns)) m 0 0 (gates_of os) in
      let parts = and_split (every yes (program_word_questions n m l ns os)) _ (sym (every_append (program_word_questions n m l ns os) (program_number_questions f n m σ l result work)) ∙ all) in
      let q1 = and_split (matrix_ceilings l && branch_ceilings l) _ parts.0 in
      let q2 = and_split (eqb (length ns % gate_size) 0) _ q1.1 in
      let q2' = and_split (eqb (length os % gate_size) 0) _ q2.1 in
      let q3 = and_split (few_operations n l ns os) _ q2'.1 in
      let lists = and_split (every yes nodes) (every yes operations) (sym (every_append nodes operations) ∙ q3.1) in
      let few = and_split (leb (length os / gate_size + 2 * n) l.max_operations) _ q3.0 in
      let few2 = and_split (leb n ceilings.max_qubits) _ few.1 in
      let nodes_yes = all_yes tt nodes ∙ lists.0 in
      let fit = axes_fit (axis_fits n (nodes_of ns)) m 0 0 (gates_of os) (all_yes tt operations ∙ lists.1) in
      let q7 = and_split (store_fits m σ) _ parts.1 in
      let q8 = and_split (program_within f n m l) _ q7.1 in
      let q9 = and_split (leb f.counts.weight max_weight) _ q8.1 in
      let q10 = and_split (program_room f.nodes sizes result work) _ q9.1 in
      let bytes = fits_word m σ q7.0 in
      let room = and_split (leb (result_words sizes.stores sizes.rows) result) _ q10.0 in
      let low = all-low l q1.0 in
      let inside = within n m sizes.branches (program_cells f.nodes sizes.branches sizes.stores sizes.rows) (program_terms f.nodes f.counts.gates sizes.branches sizes.rows) l q8.0 in (
        record {
          sound = record {
            few = leb-true n ceilings.max_qubits few2.0;
            placed = nodes-placed n 0 (gates_of ns) nodes_yes;
            axes = all_imp (λ (o : Operation). axis_fits n (nodes_of ns) (axis o) ≡ true) (λ (o : Operation). hermitian n (axis_matrix n (nodes_of ns) (axis o)) ≡ true) (operations_of os)
                (λ o e. (and_split (ltb (axis o).node (number_of n (length (nodes_of ns)))) _ e).1) fit;
            eighths = all_eighths (axis_fits n (nodes_of ns)) m 0 0 (gates_of os) lists.1;
          };
          qubit_count =
              four n sizes.stores ((3 * sizes.branches + f.nodes + 8) * (2 ^ n) ^ 2) l.max_matrix_cells
              (omega (arith, leb-true n ceilings.max_qubits few2.0)) (pow_pos (min f.counts.splits f.counts.written))
              inside.cells_within low.of_matrix.cells_low;
          bit_count_lem = omega (arith, inside.bits_within, low.bits_low);
          bytes = bytes.1;
          byte_count = bytes.0;
          light = leb-true f.counts.weight max_weight q9.0;
          branch_count = omega (arith, inside.branches_within, low.branches_low);
          room = leb-true _ _ room.0;
          work_room = leb-true _ _ room.1;
        },
        record {
          few = leb-true (length ns / gate_size) max_listed few2.1;
          nodes_yes = nodes_yes;
          operations_yes = lists.1;
          named_few = (words_known n m l ns os (all_yes tt (program_word_questions n m l ns os) ∙ parts.0)).nodes_few;
        },
      )

module _ (n m : ℕ) (σ : List ℕ) (l : Limits) (ns os : List ℕ) (r w : List ℤ) (e : accepts n m σ l ns os r w ≡ true) where
  all-yes-answered : every yes (pauli_questions n m σ l ns os (length r) (length w)) ≡ true
  all-yes-answered = sym (program_accepts n m σ l ns os (length r) (length w)) ∙ e

  pub accepted_listed : Listed n m ns os
  accepted_listed = (known n m σ l ns os (length r) (length w) all-yes-answered).1

pub accepted_known : AcceptedKnown
accepted_known n m σ l ns os r w e = (known n m σ l ns os (length r) (length w) (all-yes-answered n m σ l ns os r w e)).0
