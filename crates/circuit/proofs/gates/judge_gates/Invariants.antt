-- The invariant: the gates passed so far are accepted, so the rest decides.
use mathlib.Core.Path.{◌≡◌}
use Rattle.verdict.specs.Questions.{first_no}
use Rattle.gate.specs.Gate.{gates_of}
use Rattle.circuit.specs.Questions.{gates_questions}
use Rattle.circuit.proofs.AlongGates.{from}
use Rattle.circuit.proofs.gates.judge_gates.Given as goal

abbrev pub invariant-loop-i : goal.invariant-loop-i
invariant-loop-i l = first_no (gates_questions l.asking l.n 0 (gates_of l.words)) ≡ first_no (from l.words l.asking l.n l.i)
