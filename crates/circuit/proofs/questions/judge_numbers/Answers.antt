-- What is asked before the sizes decides, or what is asked of them.
use mathlib.Core.Path.{◌∙◌}
use Rattle.verdict.proofs.Questions.{returned}
use Rattle.circuit.specs.declared.sizes.Sizes.{Sizes}
use Rattle.circuit.specs.Inner.Numbers.{few_cells}
use Rattle.circuit.specs.Questions.{room_for}
use native.Mathlib.Omega.{arith}
use Rattle.algebra.proofs.Tests.{and_split}
use Rattle.circuit.specs.Limits.{matrix_ceilings, branch_ceilings}
use Rattle.circuit.proofs.Known.{all-low}
use Rattle.circuit.proofs.Numbers.{counts_refuse, counts_pass}
use Rattle.circuit.proofs.questions.judge_numbers.Goals as goal

pub returns-in_err-sizes : goal.returns-in_err-sizes
returns-in_err-sizes c =
    let a = c.args in
    returned _ c.from_residual.ensures.1
    ∙ counts_refuse a.l a.f a.n a.bits a.store.now (few_cells a.l a.f.gates) (λ (s : Sizes). room_for s a.res a.work) (all-low a.l c.requires.0) c.in_err-sizes.ensures

pub judge_counts-requires : goal.judge_counts-requires
judge_counts-requires c = let a = c.args in (and_split (matrix_ceilings a.l) (branch_ceilings a.l) c.requires.0).0

pub judge_sizes-requires : goal.judge_sizes-requires
judge_sizes-requires c = let a = c.args in omega (arith, c.requires.1, (all-low a.l c.requires.0).of_matrix.operations_low)

pub returns : goal.returns
returns c =
    let a = c.args in
    c.judge_sizes.ensures
    ∙ counts_pass a.l a.f a.n a.bits a.store.now (few_cells a.l a.f.gates) (λ (s : Sizes). room_for s a.res a.work) (all-low a.l c.requires.0) c.in_ok-sizes.ensures
