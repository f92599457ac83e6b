-- `run_operations` meets its contract.
use mathlib.Core.Path.{◌≡◌}
use mathlib.Core.List.{List}
use Rattle.pauli_nodes.specs.Nodes.{Node}
use Rattle.pauli_run.specs.Inner.Run.{Runs}
use Rattle.pauli_run.proofs.Running.{Running}
use Rattle.pauli_run.proofs.run.run_operations.Given as goal

abbrev pub invariant-loop-i : goal.invariant-loop-i
invariant-loop-i l =
    let p = l.program in
    (l.bank.d ≡ l.d)
    × ((nodes : List Node) → Runs l.initial.work p.operations.now l.masks p.store.now p.qubits l.d l.banks nodes
    → Running l.initial.work p.operations.now p.store.now p.qubits l.d l.banks nodes l.work l.bank.at l.bank.count l.made l.i)
