-- The operations passed so far are accepted, so the rest decides.
use mathlib.Core.Path.{◌≡◌}
use Prim.Native.Nat.{◌≤◌}
use Rattle.verdict.specs.Questions.{first_no}
use Rattle.gate.specs.Gate.{gates_of}
use Rattle.pauli_words.specs.Questions.{operations_questions}
use Rattle.pauli_words.specs.Inner.Masks.{mask_fits}
use Rattle.pauli_words.proofs.Asked.{from}
use Rattle.pauli_words.proofs.operations.judge_operations.Given as goal

abbrev pub invariant-loop-i : goal.invariant-loop-i
invariant-loop-i l =
    (l.made ≤ l.i) × (first_no (operations_questions (mask_fits l.masks) l.bits 0 0 (gates_of l.words)) ≡ first_no (from l.words (mask_fits l.masks) l.bits l.made l.i))
