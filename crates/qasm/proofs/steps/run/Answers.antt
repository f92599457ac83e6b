-- `steps::run` meets its contract.
use Rattle.std.proofs.Common.{refl, sym, ap, subst, arith}
use Rattle.std.specs.Prelude.{Result}
use Rattle.qasm.specs.declared.steps.Progress.{Progress}
use Rattle.qasm.specs.declared.reader.Fault.{Fault}
use mathlib.Core.List.{foldl}
use Rattle.qasm.specs.Reading.{step, start}
use Rattle.qasm.specs.Inner.Left.{tokens_left}
use Rattle.qasm.specs.Inner.Progress.{Sees}
use Rattle.qasm.proofs.Scanning.{from-few}
use Rattle.qasm.proofs.Going.{going_top, going_fault, returned}
use Rattle.qasm.proofs.steps.run.Goals as goal

pub loop-token-init : goal.loop-token-init
loop-token-init c = going_top (tokens_left c.args.tokens) c.args.gates.now (ap tokens_left c.into_iter-token-iterator.ensures.into_iter_gives) refl (record { words = refl; opened = refl })

pub step-requires : goal.step-requires
step-requires c =
    let t = c.args.tokens in
    let i = c.loop-token.invariant in
    record { few = omega (arith, i.few, from-few t.text.now t.at); opened = i.sees.counts.opened }

pub returns-in_err-s : goal.returns-in_err-s
returns-in_err-s c =
    let all = tokens_left c.args.tokens in
    subst (λ (r : Result Progress Fault). Sees c.args.gates.now r c.step.new.gates (foldl step start all)) (sym (returned c.from_residual.result c.from_residual.ensures.1))
    (going_fault all c.args.gates.now c.loop-token.invariant c.in-Some.ensures.steps c.in_err-s.was c.step.ensures)
