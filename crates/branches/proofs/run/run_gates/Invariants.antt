-- `run_gates` meets its contract.
use mathlib.Core.Path.{◌≡◌}
use Rattle.branches.proofs.Runs.{Running}
use Rattle.branches.proofs.run.run_gates.Given as goal

abbrev pub invariant-loop-i : goal.invariant-loop-i
invariant-loop-i l = (l.bank.d ≡ l.d) × Running l.initial.work l.gates l.store l.n l.d l.banks l.work l.bank.at l.bank.count l.i
