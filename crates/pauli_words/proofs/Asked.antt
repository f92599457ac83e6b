-- The questions of the nodes, and of the operations: what the first of a list decides, and what it leaves to the rest.
use Rattle.std.specs.Prelude.{Ok, Err}
use mathlib.Core.Path.{◌≡◌, refl, sym, ap, ◌∙◌, subst}
use mathlib.Core.Bool.{Bool}
use mathlib.Core.List.{List, [], ◌∷◌, ◌++◌, map}
use Prim.Native.Nat.{ℕ, suc, ◌+◌, ◌-◌, ◌*◌, ◌/◌, ◌≤◌, ◌<◌}
use native.Mathlib.Omega.{arith}
use native.Mathlib.Numerals.{add-one}
use lib.ListN.{length, set, take}
use Rattle.verdict.specs.declared.Refusal.{Refusal}
use Rattle.verdict.specs.Questions.{Question, first_no}
use Rattle.verdict.proofs.Questions.{refused, passed}
use Rattle.gate.specs.Gate.{Gate, gate_size, gate_at, gates_from, gates_of}
use Rattle.gate.proofs.Listed.{gates-more, gates-none}
use Rattle.pauli_nodes.specs.Nodes.{Reference, basis_from, in_order}
use Rattle.pauli_nodes.specs.Operations.{splits}
use Rattle.pauli_nodes.specs.Inner.Masks.{Mask, identity_mask, mask_after, node_masks}
use Rattle.pauli_nodes.proofs.Numbers.{in_turn}
use Rattle.pauli_words.specs.Words.{node_of, nodes_of, operation_of}
use Rattle.pauli_words.specs.Questions.{number_of, node_questions, nodes_questions, operation_questions, operations_questions}
use Rattle.pauli_words.specs.Inner.Masks.{basis_masks}
use Rattle.pauli_words.proofs.Held.{Laid, laid_next}

module _ (ws : List ℕ) where
  abbrev count : ℕ
  count = length ws / gate_size

  abbrev rest : ℕ → List Gate
  rest i = gates_from ws i (length ws / gate_size - i)

  -- ---- nodes
  module _ (n : ℕ) where
    -- the nodes before node i are accepted, and their mask forms are in the array
    pub record Passed (ms : List Mask) (i : ℕ) : Type 0 where
      pub decided : first_no (nodes_questions n 0 (gates_of ws)) ≡ first_no (nodes_questions n i (gates_from ws i (length ws / gate_size - i)))
      pub laid : Laid n ms (number_of n i) (map node_of (gates_from ws i (length ws / gate_size - i))) (node_masks n (nodes_of ws))

    pub passed_none : (ms : List Mask) → take (number_of n 0) ms ≡ basis_masks n → Passed ms 0
    passed_none ms h =
        let e : count - 0 ≡ count = omega arith in
        record {
          decided = rw e;
          laid = record {
            all = ap (λ (k : ℕ). in_order (mask_after n) (map node_of (gates_from ws 0 k)) (take (number_of n 0) ms)) e
                ∙ ap (in_order (mask_after n) (nodes_of ws)) h ∙ sym (in_turn (mask_after n) (basis_from n 0) (nodes_of ws) (identity_mask ∷ []));
          };
        }

    module _ {ms : List Mask} {i : ℕ} {w : Gate} (p : Passed ms i) (l : i < length ws / gate_size) (e : w ≡ gate_at ws (i * gate_size)) where
      more : rest i ≡ w ∷ rest (i + 1)
      more = gates-more ws count i l ∙ ap (λ (g : Gate). g ∷ rest (i + 1)) (sym e)

      split : nodes_questions n i (rest i) ≡ node_questions n i w ++ nodes_questions n (i + 1) (rest (i + 1))
      split = ap (nodes_questions n i) more ∙ ap (λ (j : ℕ). node_questions n i w ++ nodes_questions n j (rest (i + 1))) (sym (add-one i))

      pub node_decides : {r : Refusal} → Err r ≡ first_no (node_questions n i w) → Err r ≡ first_no (nodes_questions n 0 (gates_of ws))
      node_decides h = refused tt tt (node_questions n i w) (nodes_questions n (i + 1) (rest (i + 1))) h ∙ ap first_no (sym split) ∙ sym p.decided

      pub node_passes : Ok tt ≡ first_no (node_questions n i w) → (x : Mask) → number_of n i < length ms → x ≡ mask_after n (take (number_of n i) ms) (node_of w) → Passed (set ms (number_of n i) x) (i + 1)
      node_passes h x long m =
          let k : suc (number_of n i) ≡ number_of n (i + 1) = omega arith in
          let start : Laid n ms (number_of n i) (node_of w ∷ map node_of (rest (i + 1))) (node_masks n (nodes_of ws)) =
          subst (λ (gs : List Gate). Laid n ms (number_of n i) (map node_of gs) (node_masks n (nodes_of ws))) more p.laid in
          record {
            decided = p.decided ∙ ap first_no split ∙ sym (passed tt tt (node_questions n i w) (nodes_questions n (i + 1) (rest (i + 1))) h);
            laid = subst (λ (j : ℕ). Laid n (set ms (number_of n i) x) j (map node_of (rest (i + 1))) (node_masks n (nodes_of ws))) k (laid_next n start x long m);
          }

    pub passed_all : {ms : List Mask} {i : ℕ} → Passed ms i → length ws / gate_size ≤ i → (Ok tt) ≡ first_no (nodes_questions n 0 (gates_of ws))
    passed_all {ms} {i} p l = sym (p.decided ∙ ap (λ (gs : List Gate). first_no (nodes_questions n i gs)) (gates-none ws count i l))

    pub laid_whole : {ms : List Mask} {i : ℕ} → Passed ms i → length ws / gate_size ≤ i → i ≤ length ws / gate_size
        → take (number_of n (length ws / gate_size)) ms ≡ node_masks n (nodes_of ws)
    laid_whole {ms} {i} p l m =
        let k : number_of n (length ws / gate_size) ≡ number_of n i = omega arith in
        ap (λ (j : ℕ). take j ms) k ∙ ap (λ (gs : List Gate). in_order (mask_after n) (map node_of gs) (take (number_of n i) ms)) (sym (gates-none ws count i l)) ∙ p.laid.all

  -- ---- operations
  module _ (fits : Reference → Bool) (m : ℕ) where
    abbrev pub from : ℕ → ℕ → List Question
    from made i = operations_questions fits m made i (gates_from ws i (length ws / gate_size - i))

    module _ (made : ℕ) {i : ℕ} {w : Gate} (l : i < length ws / gate_size) (e : w ≡ gate_at ws (i * gate_size)) where
      parted : {s : ℕ} → s ≡ splits (operation_of w) → from made i ≡ operation_questions fits m made i w ++ from (made + s) (i + 1)
      parted t =
          ap (operations_questions fits m made i) (gates-more ws count i l ∙ ap (λ (g : Gate). g ∷ rest (i + 1)) (sym e))
          ∙ (λ j. operation_questions fits m made i w ++ operations_questions fits m (made + sym t j) (sym (add-one i) j) (rest (i + 1)))

      pub operation_decides : {r : Refusal} → Err r ≡ first_no (operation_questions fits m made i w) → Err r ≡ first_no (from made i)
      operation_decides h = refused tt tt (operation_questions fits m made i w) (from (made + splits (operation_of w)) (i + 1)) h ∙ ap first_no (sym (parted refl))

      pub operation_passes : Ok tt ≡ first_no (operation_questions fits m made i w) → {s : ℕ} → s ≡ splits (operation_of w) → first_no (from made i) ≡ first_no (from (made + s) (i + 1))
      operation_passes h {s} t = ap first_no (parted t) ∙ sym (passed tt tt (operation_questions fits m made i w) (from (made + s) (i + 1)) h)

    pub none_left : (made i : ℕ) → length ws / gate_size ≤ i → first_no (from made i) ≡ (Ok tt)
    none_left made i l = ap (λ (gs : List Gate). first_no (operations_questions fits m made i gs)) (gates-none ws count i l)
