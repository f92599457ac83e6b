-- The test of an axis by the mask forms in the array is that of the definition.
use Rattle.std.specs.Prelude.{is_ok}
use mathlib.Core.Path.{◌≡◌, sym, ap, ap₂, ◌∙◌}
use mathlib.Core.Bool.{Bool, true, ◌&&◌}
use mathlib.Core.List.{List}
use Prim.Native.Nat.{ℕ, ◌/◌, ◌≤◌}
use lib.Dec.{ltb}
use lib.ListN.{length, take, length-map}
use Rattle.std.proofs.lemmas.List.{length-take-le}
use Rattle.algebra.specs.Lists.{All}
use Rattle.verdict.specs.Questions.{Verdict}
use Rattle.verdict.specs.Questions.{first_no}
use Rattle.gate.specs.Gate.{gate_size, gates_of}
use Rattle.gate.proofs.Listed.{gates-length}
use Rattle.pauli_nodes.specs.Nodes.{Reference, Node, Placed}
use Rattle.pauli_nodes.specs.Inner.Masks.{Mask, node_masks}
use Rattle.pauli_nodes.proofs.Nodes.{axis_test}
use Rattle.pauli_words.specs.Words.{node_of, nodes_of}
use Rattle.pauli_words.specs.Questions.{number_of, axis_fits, nodes_questions}
use Rattle.pauli_words.specs.Inner.Masks.{mask_fits}
use Rattle.pauli_judge.proofs.Accepted.{nodes-placed}

module _ (n : ℕ) (few : n ≤ 5) (nodes : List Node) (on : All (Placed n) nodes) where
  abbrev all : List Mask
  all = node_masks n nodes

  axis_told : length (node_masks n nodes) ≡ number_of n (length nodes) → (a : Reference) → mask_fits (node_masks n nodes) a ≡ axis_fits n nodes a
  axis_told e a = ap₂ (λ (k : ℕ) (t : Bool). ltb a.node k && t) e (sym (axis_test n few nodes on a))

-- of nodes that were accepted
pub fits-same : (n : ℕ) → n ≤ 5 → (ns : List ℕ) (ms : List Mask) {v : Verdict} → v ≡ first_no (nodes_questions n 0 (gates_of ns)) → is_ok v ≡ true
    → number_of n (length ns / gate_size) ≤ length ms → take (number_of n (length ns / gate_size)) ms ≡ node_masks n (nodes_of ns)
    → mask_fits (take (number_of n (length ns / gate_size)) ms) ≡ axis_fits n (nodes_of ns)
fits-same n few ns ms h good room held =
    let e : length ns / gate_size ≡ length (nodes_of ns) = sym (length-map (gates_of ns) node_of ∙ gates-length ns 0 (length ns / gate_size)) in
    let l : length (node_masks n (nodes_of ns)) ≡ number_of n (length (nodes_of ns)) = ap length (sym held) ∙ length-take-le (number_of n (length ns / gate_size)) ms room ∙ ap (number_of n) e in
    ap mask_fits held ∙ (λ i a. axis_told n few (nodes_of ns) (nodes-placed n 0 (gates_of ns) (sym (ap is_ok h) ∙ good)) l a i)
