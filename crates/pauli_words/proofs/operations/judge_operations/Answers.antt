-- One operation more at each pass; the first that is refused decides.
use Rattle.std.proofs.Common.{sym, ap, ◌∙◌, arith}
use Rattle.verdict.proofs.Questions.{returned}
use Rattle.pauli_nodes.specs.Operations.{splits}
use Rattle.pauli_words.specs.Inner.Masks.{mask_fits}
use Rattle.pauli_words.proofs.Asked.{operation_decides, operation_passes}
use Rattle.pauli_words.proofs.operations.judge_operations.Goals as goal

pub loop-i-preserved : goal.loop-i-preserved
loop-i-preserved c =
    let a = c.args in
    let (passes, is_operation) = c.in_ok-operation.ensures in (
      omega arith,
      c.loop-i.invariant.1
          ∙ operation_passes a.words.now (mask_fits a.masks.now) a.bits c.loop-i.made c.loop-i-test.true c.read_gate.ensures passes (c.splits-made.ensures.0 ∙ ap splits is_operation),
    )

pub returns-in_err-operation : goal.returns-in_err-operation
returns-in_err-operation c =
    let a = c.args in
    returned _ c.from_residual.ensures.1
    ∙ operation_decides a.words.now (mask_fits a.masks.now) a.bits c.loop-i.made c.loop-i-test.true c.read_gate.ensures c.in_err-operation.ensures
    ∙ sym c.loop-i.invariant.1
