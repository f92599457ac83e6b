-- What is handed over is what the program asks for; a refusal leaves the buffers.
use Rattle.std.specs.Prelude.{is_ok}
use Rattle.std.proofs.Common.{ℕ, List, refl, sym, ap, ◌∙◌}
use Rattle.verdict.proofs.Questions.{returned, refused_alike, handed, handed_value}
use Rattle.pauli_words.specs.Words.{operations_of}
use Rattle.pauli_judge.specs.declared.footprint.ProgramFootprint.{ProgramFootprint}
use Rattle.pauli_judge.specs.Footprint.{program_footprint}
use Rattle.pauli.specs.Call.{asked}
use Rattle.pauli.proofs.Running.{accepted_leaves, refused_leaves}
use Rattle.pauli.proofs.call.pauli_channel.Goals as goal

-- what the program asks for
abbrev print : ℕ → ℕ → List ℕ → ProgramFootprint
print n m os = program_footprint n m (operations_of os)

pub run_and_deliver-requires-clause-program : goal.run_and_deliver-requires-clause-program
run_and_deliver-requires-clause-program c =
    let a = c.args.program in
    let f = print a.qubits a.bits a.operations.now in
    let qs = asked a.qubits a.bits a.store.now c.args.limits a.nodes.now a.operations.now c.args.res.now c.args.work.now in
    (handed_value f qs c.in_ok-f.ensures.value, record { limits = c.args.limits; yes = sym (ap is_ok (handed f tt qs c.in_ok-f.ensures.value)) })

pub run_and_deliver-requires-clause-forms : goal.run_and_deliver-requires-clause-forms
run_and_deliver-requires-clause-forms c = c.in_ok-f.ensures.forms refl

pub returns-in_err-f : goal.returns-in_err-f
returns-in_err-f c =
    let a = c.args.program in
    let f = print a.qubits a.bits a.operations.now in
    let qs = asked a.qubits a.bits a.store.now c.args.limits a.nodes.now a.operations.now c.args.res.now c.args.work.now in
    let no = refused_alike f tt qs c.in_err-f.ensures.value in
    let left = refused_leaves a.qubits a.bits a.store.now c.args.limits a.nodes.now a.operations.now c.args.res.now c.args.work.now (sym (ap is_ok no)) in
    record { value = returned _ c.from_residual.ensures.1 ∙ no; res_after = left.0; work_after = left.1 }

pub returns : goal.returns
returns c =
    let a = c.args.program in
    let f = print a.qubits a.bits a.operations.now in
    let qs = asked a.qubits a.bits a.store.now c.args.limits a.nodes.now a.operations.now c.args.res.now c.args.work.now in
    let yes = handed f tt qs c.in_ok-f.ensures.value in
    let left = accepted_leaves a.qubits a.bits a.store.now c.args.limits a.nodes.now a.operations.now c.args.res.now c.args.work.now (sym (ap is_ok yes)) c.run_and_deliver.ensures.res_after c.run_and_deliver.ensures.work_after in
    record { value = yes; res_after = left.0; work_after = left.1 }
