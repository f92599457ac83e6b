-- `judge_formed` meets its contract.
use mathlib.Core.Path.{◌≡◌}
use Rattle.verdict.specs.Questions.{first_no}
use Rattle.gate.specs.Gate.{gates_of}
use Rattle.qasm_writer.specs.Call.{along, formed_at}
use Rattle.qasm_writer.proofs.Asked.{from}
use Rattle.qasm_writer.proofs.judge_formed.Given as goal

abbrev pub invariant-loop-i : goal.invariant-loop-i
invariant-loop-i l = first_no (along formed_at 0 (gates_of l.words)) ≡ first_no (along formed_at l.i (from l.words l.i))
