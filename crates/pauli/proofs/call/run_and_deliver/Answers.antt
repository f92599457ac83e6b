-- What is known of an accepted program, at each step.
use Rattle.std.proofs.Common.{◌^◌, arith, ap, ◌∙◌}
use Rattle.circuit.specs.Questions.{sizes_of}
use Rattle.pauli_judge.specs.declared.footprint.ProgramFootprint.{ProgramFootprint}
use Rattle.pauli_judge.specs.Sizes.{program_work}
use Rattle.pauli.proofs.Running.{few_qubits, few-splits, few-named, delivers, delivered, used-room, cleared}
use Rattle.pauli.proofs.call.run_and_deliver.Goals as goal

pub power-banks-requires : goal.power-banks-requires
power-banks-requires c = omega (arith, few-splits c.requires.program.1, ap (λ (f : ProgramFootprint). f.counts.splits) c.requires.program.0)

pub deliver-requires : goal.deliver-requires
deliver-requires c =
    let many = c.power-banks.ensures ∙ ap (λ (f : ProgramFootprint). 2 ^ f.counts.splits) c.requires.program.0 in
    delivers c.requires.program.1 c.power-d.ensures many c.run_program-at.ensures

pub of-requires : goal.of-requires
of-requires c =
    let (f, a) = c.requires.program in
    (omega (arith, few-named a, ap (λ (f : ProgramFootprint). f.nodes) f), omega (arith, few-splits a, ap (λ (f : ProgramFootprint). f.counts.splits) f), omega (arith, few_qubits a))

pub clear-requires : goal.clear-requires
clear-requires c =
    let many = c.power-banks.ensures ∙ ap (λ (f : ProgramFootprint). 2 ^ f.counts.splits) c.requires.program.0 in
    let used = c.work_words-used.ensures ∙ (λ i. program_work (c.of.ensures.0 i) (c.of.ensures.1 i).branches (c.of.ensures.1 i).rows)
    ∙ ap (λ (f : ProgramFootprint). let s = sizes_of f.counts c.args.program.qubits in program_work f.nodes s.branches s.rows) c.requires.program.0 in
    omega (arith, used-room c.requires.program.1 c.power-d.ensures many c.run_program-at.ensures used)

pub returns-clause-res_after : goal.returns-clause-res_after
returns-clause-res_after c =
    let many = c.power-banks.ensures ∙ ap (λ (f : ProgramFootprint). 2 ^ f.counts.splits) c.requires.program.0 in
    delivered c.requires.program.1 c.power-d.ensures many c.run_program-at.ensures c.deliver.ensures

pub returns-clause-work_after : goal.returns-clause-work_after
returns-clause-work_after c =
    let many = c.power-banks.ensures ∙ ap (λ (f : ProgramFootprint). 2 ^ f.counts.splits) c.requires.program.0 in
    let used = c.work_words-used.ensures ∙ (λ i. program_work (c.of.ensures.0 i) (c.of.ensures.1 i).branches (c.of.ensures.1 i).rows)
    ∙ ap (λ (f : ProgramFootprint). let s = sizes_of f.counts c.args.program.qubits in program_work f.nodes s.branches s.rows) c.requires.program.0 in
    cleared c.requires.program.1 c.power-d.ensures many c.run_program-at.ensures used c.clear.ensures
