-- What nodes and operations that are accepted are known for: qubits below n, and axes that are there.
use Rattle.std.specs.Prelude.{is_ok, Err}
use mathlib.Core.Path.{◌≡◌, refl, sym, ◌∙◌}
use mathlib.Core.Bool.{Bool, true, false, cond, ◌&&◌, true≢false}
use mathlib.Core.List.{List, [], ◌∷◌, ◌++◌, map}
use Prim.Native.Nat.{ℕ, suc, ◌+◌, ◌*◌, ◌/◌, ◌%◌, ◌≤◌, ◌<◌, max}
use native.Mathlib.Omega.{arith}
use lib.Dec.{eqb, ltb}
use lib.ListN.{length, length-map}
use borrow.Author.Tests.{ltb-true}
use Rattle.algebra.specs.Lists.{All, every}
use Rattle.algebra.proofs.Tests.{and_split}
use Rattle.verdict.specs.declared.Refusal.TheVariants.{OverLimit, OverCeiling, OperandAt, MalformedAt, BadNodeAt, BadAxisAt, NoOutcomeAt}
use Rattle.verdict.specs.Questions.{Question, first_no}
use Rattle.verdict.proofs.Questions.{yes, every_append, all_yes}
use Rattle.gate.specs.Gate.{Gate, gate_size, gates_of}
use Rattle.gate.proofs.Listed.{gates-length}
use Rattle.circuit.specs.declared.limits.Limits.{Limits}
use Rattle.circuit.specs.Limits.{matrix_ceilings, branch_ceilings}
use Rattle.pauli_nodes.specs.Nodes.{Reference, Node, single, product, Placed}
use Rattle.pauli_nodes.specs.Operations.{Operation, rotate, rotate_if, measure, axis, splits}
use Rattle.pauli_words.specs.Words.{node_of, node_formed, nodes_of, operation_of, operation_formed, operations_of}
use Rattle.pauli_words.specs.Questions.{number_of, axis_fits, sound, nodes_questions, operand_questions, operations_questions}
use Rattle.pauli_words.specs.Inner.Masks.{max_nodes}
use Rattle.pauli_judge.specs.Footprint.{named}
use Rattle.pauli_judge.specs.Questions.{few_operations, program_word_questions}
use Rattle.pauli_judge.proofs.Numbers.{few_known}

-- ---- nodes
placed : (n k : ℕ) (x : Node) → sound n k x ≡ true → Placed n x
placed n k (single q p) e = ltb-true q n e
placed n k (product a b) e = tt

pub nodes-placed : (n i : ℕ) (gs : List Gate) → is_ok (first_no (nodes_questions n i gs)) ≡ true → All (Placed n) (map node_of gs)
nodes-placed n i [] e = tt
nodes-placed n i (w ∷ gs) e = go (node_formed w) (sound n (number_of n i) (node_of w)) refl (nodes-placed n (suc i) gs) e
  where
    go : (a b : Bool) → sound n (number_of n i) (node_of w) ≡ b → (is_ok (first_no (nodes_questions n (suc i) gs)) ≡ true → All (Placed n) (map node_of gs))
        → is_ok (cond a (cond b (first_no (nodes_questions n (suc i) gs)) (Err (BadNodeAt i))) (Err (MalformedAt i))) ≡ true → Placed n (node_of w) × All (Placed n) (map node_of gs)
    go true true f r h = (placed n (number_of n i) (node_of w) f, r h)
    go true false f r h = absurd (true≢false (sym h))
    go false b f r h = absurd (true≢false (sym h))

-- ---- operations
-- what follows an operation's operands
after : (m made i : ℕ) (o : Operation) (qs : List Question) → is_ok (first_no (operand_questions m made i o ++ qs)) ≡ true → is_ok (first_no qs) ≡ true
after m made i (rotate a k) qs e = e
after m made i (rotate_if a k o) qs e = go (ltb o made) e
  where
    go : (b : Bool) → is_ok (cond b (first_no qs) (Err (NoOutcomeAt i))) ≡ true → is_ok (first_no qs) ≡ true
    go true h = h
    go false h = absurd (true≢false (sym h))
after m made i (measure a bs) qs e = go (every (λ (b : ℕ). ltb b m) bs) e
  where
    go : (b : Bool) → is_ok (cond b (first_no qs) (Err (OperandAt i))) ≡ true → is_ok (first_no qs) ≡ true
    go true h = h
    go false h = absurd (true≢false (sym h))

-- every axis fits
pub axes_fit : (fits : Reference → Bool) (m made i : ℕ) (gs : List Gate) → is_ok (first_no (operations_questions fits m made i gs)) ≡ true
    → All (λ (o : Operation). fits (axis o) ≡ true) (map operation_of gs)
axes_fit fits m made i [] e = tt
axes_fit fits m made i (w ∷ gs) e = go (operation_formed w) (fits (axis (operation_of w))) refl (axes_fit fits m (made + splits (operation_of w)) (suc i) gs) e
  where
    go : (a b : Bool) → fits (axis (operation_of w)) ≡ b
        → (is_ok (first_no (operations_questions fits m (made + splits (operation_of w)) (suc i) gs)) ≡ true → All (λ (o : Operation). fits (axis o) ≡ true) (map operation_of gs))
        → is_ok (cond a (cond b (first_no (operand_questions m made i (operation_of w) ++ operations_questions fits m (made + splits (operation_of w)) (suc i) gs)) (Err (BadAxisAt i))) (Err (MalformedAt i))) ≡ true
        → (fits (axis (operation_of w)) ≡ true) × All (λ (o : Operation). fits (axis o) ≡ true) (map operation_of gs)
    go true true f r h = (f, r (after m made i (operation_of w) (operations_questions fits m (made + splits (operation_of w)) (suc i) gs) h))
    go true false f r h = absurd (true≢false (sym h))
    go false b f r h = absurd (true≢false (sym h))

frame_few : (n : ℕ) (b : Bool) → cond b 0 (1 + 2 * n) ≤ 1 + 2 * n
frame_few n true = omega arith
frame_few n false = omega arith

-- so no node past the last is named
pub named_few : (n K : ℕ) (fits : Reference → Bool) → ((a : Reference) → fits a ≡ true → a.node < K) → 1 + 2 * n ≤ K → (os : List Operation)
    → All (λ (o : Operation). fits (axis o) ≡ true) os → named n os ≤ K
named_few n K fits there l [] h = omega (arith, frame_few n (eqb n 0))
named_few n K fits there l (o ∷ os) h = max_le (named_few n K fits there l os h.1) (there (axis o) h.0)
  where
    max_le : named n os ≤ K → (axis o).node < K → max (suc (axis o).node) (named n os) ≤ K
    max_le a b = omega arith

-- the later of two lists of questions, where both together are accepted
second : (xs ys : List Question) → is_ok (first_no (xs ++ ys)) ≡ true → is_ok (first_no ys) ≡ true
second xs ys e = all_yes tt ys ∙ (and_split (every yes xs) (every yes ys) (sym (all_yes tt (xs ++ ys) ∙ every_append xs ys) ∙ e)).1

module _ (n m : ℕ) (l : Limits) (ns os : List ℕ) where
  -- words that are accepted: low limits, few operations, few nodes named
  pub record Known : Type 0 where
    pub low : (matrix_ceilings l && branch_ceilings l) ≡ true
    pub operations_few : length os / gate_size + 2 * n ≤ l.max_operations
    pub nodes_few : named n (operations_of os) ≤ max_nodes

  known : (matrix_ceilings l && branch_ceilings l) ≡ true → few_operations n l ns os ≡ true
      → is_ok (first_no (nodes_questions n 0 (gates_of ns) ++ operations_questions (axis_fits n (nodes_of ns)) m 0 0 (gates_of os))) ≡ true → Known
  known p q e =
      let k = few_known n m l ns os refl q in
      let c : length (nodes_of ns) ≡ length ns / gate_size = length-map (gates_of ns) node_of ∙ gates-length ns 0 (length ns / gate_size) in
      let there : (a : Reference) → axis_fits n (nodes_of ns) a ≡ true → a.node < number_of n (length (nodes_of ns)) = λ a f.
      ltb-true a.node (number_of n (length (nodes_of ns))) (and_split (ltb a.node (number_of n (length (nodes_of ns)))) _ f).0 in
      let h : named n (operations_of os) ≤ number_of n (length (nodes_of ns)) =
      named_few n (number_of n (length (nodes_of ns))) (axis_fits n (nodes_of ns)) there (omega arith) (operations_of os)
      (axes_fit (axis_fits n (nodes_of ns)) m 0 0 (gates_of os) (second (nodes_questions n 0 (gates_of ns)) (operations_questions (axis_fits n (nodes_of ns)) m 0 0 (gates_of os)) e)) in
      record { low = p; operations_few = k.0; nodes_few = omega (arith, h, c, k.1, k.2) }

  pub words_known : is_ok (first_no (program_word_questions n m l ns os)) ≡ true → Known
  words_known = go (matrix_ceilings l && branch_ceilings l) (eqb (length ns % gate_size) 0) (eqb (length os % gate_size) 0) (few_operations n l ns os) refl refl
    where
      go : (a b c d : Bool) → (matrix_ceilings l && branch_ceilings l) ≡ a → few_operations n l ns os ≡ d
          → is_ok (cond a (cond b (cond c (cond d (first_no (nodes_questions n 0 (gates_of ns) ++ operations_questions (axis_fits n (nodes_of ns)) m 0 0 (gates_of os)))
          (Err OverLimit)) (Err (MalformedAt 0))) (Err (MalformedAt 0))) (Err OverCeiling)) ≡ true
          → Known
      go true true true true p q e = known p q e
      go true true true false p q e = absurd (true≢false (sym e))
      go true true false d p q e = absurd (true≢false (sym e))
      go true false c d p q e = absurd (true≢false (sym e))
      go false b c d p q e = absurd (true≢false (sym e))
