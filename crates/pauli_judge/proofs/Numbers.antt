-- What is known of few operations.
use mathlib.Core.Path.{◌≡◌, sym, ◌∙◌}
use mathlib.Core.Bool.{Bool, true}
use mathlib.Core.List.{List}
use Prim.Native.Nat.{ℕ, ◌+◌, ◌*◌, ◌/◌, ◌≤◌}
use lib.Dec.{leb}
use lib.ListN.{length}
use borrow.Author.Tests.{leb-true}
use Rattle.algebra.proofs.Tests.{and_split}
use Rattle.gate.specs.Gate.{gate_size}
use Rattle.circuit.specs.declared.limits.Limits.{Limits}
use Rattle.circuit.specs.Limits.{ceilings}
use Rattle.pauli_judge.specs.Questions.{max_listed, few_operations}

module _ (n m : ℕ) (l : Limits) (ns os : List ℕ) where
  -- what few operations are known for
  pub few_known : {d : Bool} → d ≡ few_operations n l ns os → d ≡ true → (length os / gate_size + 2 * n ≤ l.max_operations) × (n ≤ 5) × (length ns / gate_size ≤ max_listed)
  few_known h e =
      let a = and_split (leb (length os / gate_size + 2 * n) l.max_operations) _ (sym h ∙ e) in
      let b = and_split (leb n ceilings.max_qubits) (leb (length ns / gate_size) max_listed) a.1 in
      (leb-true _ _ a.0, leb-true _ _ b.0, leb-true _ _ b.1)
