-- What is asked before the sizes decides, or what is asked of them.
use mathlib.Core.Path.{◌∙◌}
use Rattle.verdict.proofs.Questions.{returned}
use Rattle.circuit.specs.declared.sizes.Sizes.{Sizes}
use Rattle.circuit.proofs.Known.{all-low}
use Rattle.circuit.proofs.Numbers.{counts_refuse}
use Rattle.pauli_judge.specs.Inner.Numbers.{few_program_cells}
use Rattle.pauli_judge.specs.Questions.{program_room}
use Rattle.pauli_judge.proofs.questions.judge_numbers.Goals as goal

pub returns-in_err-sizes : goal.returns-in_err-sizes
returns-in_err-sizes c =
    let a = c.args in
    let p = a.program in
    returned _ c.from_residual.ensures.1
    ∙ counts_refuse a.l a.f.counts p.qubits p.bits p.store.now (few_program_cells a.f.nodes a.l a.f.counts.gates) (λ (s : Sizes). program_room a.f.nodes s a.res a.work)
    (all-low a.l c.requires.0) c.in_err-sizes.ensures
