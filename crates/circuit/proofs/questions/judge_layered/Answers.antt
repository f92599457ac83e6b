-- The words decide, then the layers, then the numbers.
use mathlib.Core.Path.{◌∙◌}
use mathlib.Core.List.{◌++◌}
use Rattle.algebra.specs.Lists.{total}
use Rattle.verdict.proofs.Questions.{returned, refused, passed}
use Rattle.gate.specs.Gate.{gates_of, splits}
use Rattle.circuit.specs.Footprint.{footprint_of}
use Rattle.circuit.specs.Layers.{layer_questions}
use Rattle.circuit.specs.Questions.{word_questions, number_questions}
use Rattle.circuit.proofs.questions.judge_layered.Goals as goal

pub returns-in_err-judge_words : goal.returns-in_err-judge_words
returns-in_err-judge_words c =
    let a = c.args in
    let numbers = number_questions (footprint_of a.circuit.bits (gates_of a.circuit.gates.now)) a.circuit.qubits a.circuit.bits a.circuit.store.now a.l a.res a.work in
    returned _ c.from_residual.ensures.1
    ∙ refused tt (total splits (gates_of a.circuit.gates.now)) (word_questions a.circuit.qubits a.circuit.bits a.l a.circuit.gates.now) (layer_questions a.ends.now (gates_of a.circuit.gates.now) ++ numbers) c.in_err-judge_words.ensures

pub returns-in_err-judge_layers : goal.returns-in_err-judge_layers
returns-in_err-judge_layers c =
    let a = c.args in
    let counted = total splits (gates_of a.circuit.gates.now) in
    let layers = layer_questions a.ends.now (gates_of a.circuit.gates.now) in
    let numbers = number_questions (footprint_of a.circuit.bits (gates_of a.circuit.gates.now)) a.circuit.qubits a.circuit.bits a.circuit.store.now a.l a.res a.work in
    returned _ c.from_residual-in_err-judge_layers.ensures.1 ∙ refused tt counted layers numbers c.in_err-judge_layers.ensures
    ∙ passed tt counted (word_questions a.circuit.qubits a.circuit.bits a.l a.circuit.gates.now) (layers ++ numbers) c.in_ok-judge_words.ensures

pub returns : goal.returns
returns c =
    let a = c.args in
    let counted = total splits (gates_of a.circuit.gates.now) in
    let layers = layer_questions a.ends.now (gates_of a.circuit.gates.now) in
    let numbers = number_questions (footprint_of a.circuit.bits (gates_of a.circuit.gates.now)) a.circuit.qubits a.circuit.bits a.circuit.store.now a.l a.res a.work in
    c.judge_counted.ensures ∙ passed tt counted layers numbers c.in_ok-judge_layers.ensures
    ∙ passed tt counted (word_questions a.circuit.qubits a.circuit.bits a.l a.circuit.gates.now) (layers ++ numbers) c.in_ok-judge_words.ensures
