-- The gates have passed, so the limits are low.
use Rattle.std.specs.Prelude.{Ok}
use mathlib.Core.Path.{◌≡◌, ap, ◌∙◌}
use Prim.Native.Nat.{◌/◌}
use native.Mathlib.Omega.{arith}
use lib.ListN.{length}
use Rattle.algebra.specs.Lists.{total}
use Rattle.verdict.specs.Questions.{granted}
use Rattle.verdict.proofs.Questions.{returned, refused_alike, handed}
use Rattle.gate.specs.Gate.{gate_size, gates_of, splits}
use Rattle.gate.proofs.Listed.{gates-length}
use Rattle.circuit.specs.declared.footprint.Footprint.{Footprint}
use Rattle.circuit.specs.Questions.{number_questions}
use Rattle.circuit.proofs.Answers.{words-low}
use Rattle.circuit.proofs.questions.judge_counted.Goals as goal

pub judge_numbers-requires : goal.judge_numbers-requires
judge_numbers-requires c =
    let a = c.args in
    let low = words-low a.circuit.qubits a.circuit.bits a.l a.circuit.gates.now c.requires in
    let e : c.of-f.result.gates ≡ length a.circuit.gates.now / gate_size = ap (λ (f : Footprint). f.gates) c.of-f.ensures ∙ gates-length a.circuit.gates.now 0 (length a.circuit.gates.now / gate_size) in
    (low.0, omega (arith, low.1))

pub returns-in_err-judge_numbers : goal.returns-in_err-judge_numbers
returns-in_err-judge_numbers c =
    let a = c.args in
    returned _ c.from_residual.ensures.1
    ∙ refused_alike tt (total splits (gates_of a.circuit.gates.now)) (number_questions c.of-f.result a.circuit.qubits a.circuit.bits a.circuit.store.now a.l a.res a.work) c.in_err-judge_numbers.ensures
    ∙ ap (λ (f : Footprint). granted (total splits (gates_of a.circuit.gates.now)) (number_questions f a.circuit.qubits a.circuit.bits a.circuit.store.now a.l a.res a.work)) c.of-f.ensures

pub returns : goal.returns
returns c =
    let a = c.args in
    let n = total splits (gates_of a.circuit.gates.now) in
    ap (λ (f : Footprint). Ok f.splits) c.of-f.ensures
    ∙ handed tt n (number_questions c.of-f.result a.circuit.qubits a.circuit.bits a.circuit.store.now a.l a.res a.work) c.in_ok-judge_numbers.ensures
    ∙ ap (λ (f : Footprint). granted n (number_questions f a.circuit.qubits a.circuit.bits a.circuit.store.now a.l a.res a.work)) c.of-f.ensures
