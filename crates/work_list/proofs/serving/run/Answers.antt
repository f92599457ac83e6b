-- `run` meets its contract.
use mathlib.Core.Path.{◌∙◌}
use Rattle.work_list.proofs.Zeros.{work_kept}
use Rattle.work_list.proofs.serving.run.Goals as goal

pub returns-clause-work_unchanged : goal.returns-clause-work_unchanged
returns-clause-work_unchanged c =
    let a = c.args in
    c.circuit_channel.ensures.work_after ∙ work_kept a.c.qubits a.c.bits a.c.store.now a.limits a.c.gates.now a.res.now a.work.now c.requires
