-- The invariant: the gates passed so far are accepted and in the profile, so the rest decides.
use mathlib.Core.Path.{◌≡◌}
use Rattle.verdict.specs.Questions.{first_no}
use Rattle.gate.specs.Gate.{gates_of}
use Rattle.plain.specs.Questions.{profile_questions}
use Rattle.plain.proofs.Asked.{from}
use Rattle.plain.proofs.judge_gates.Given as goal

abbrev pub invariant-loop-i : goal.invariant-loop-i
invariant-loop-i l = let c = l.circuit in first_no (profile_questions c.qubits c.bits 0 (gates_of c.gates.now)) ≡ first_no (from c.gates.now c.qubits c.bits l.i)
