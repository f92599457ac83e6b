-- `weigh` meets its contract.
use mathlib.Core.Path.{◌∙◌}
use Prim.Native.Nat.{◌/◌}
use native.Mathlib.Omega.{arith}
use lib.ListN.{length}
use Rattle.circuit.specs.Sizes.{terms_needed}
use Rattle.gate.specs.Gate.{gate_size}
use Rattle.verdict.proofs.Questions.{returned, refused_alike}
use Rattle.pair_list.specs.Inner.Spots.{circuit_in}
use Rattle.work_list.specs.Serving.{terms}
use Rattle.work_list.proofs.Weighing.{asked, all_splits, splits_are, few, weighed-yes, terms-few}
use Rattle.work_list.proofs.serving.weigh.Goals as goal

pub returns-in_err-splits-clause-value : goal.returns-in_err-splits-clause-value
returns-in_err-splits-clause-value c =
    let a = c.args in
    let k = circuit_in a.c in
    returned _ c.from_residual.ensures.1 ∙ refused_alike (all_splits k a.limits a.res a.work) (terms k) (asked k a.limits a.res a.work) c.in_err-splits.ensures

pub of-requires : goal.of-requires
of-requires c =
    let a = c.args in
    let k = circuit_in a.c in
    omega (arith, (few k a.limits a.res a.work c.in_ok-splits.ensures).splitting, splits_are k a.limits a.res a.work c.in_ok-splits.ensures)

pub of-requires-2 : goal.of-requires-2
of-requires-2 c = let a = c.args in (few (circuit_in a.c) a.limits a.res a.work c.in_ok-splits.ensures).qubits

pub returns-clause-value : goal.returns-clause-value
returns-clause-value c =
    let a = c.args in
    weighed-yes (circuit_in a.c) a.limits a.res a.work c.in_ok-splits.ensures (c.terms_needed.ensures ∙ (λ i. terms_needed (length a.c.gates.now / gate_size) (c.of.ensures i) (c.of-2.ensures i)))

pub returns-clause-small : goal.returns-clause-small
returns-clause-small c =
    let a = c.args in
    terms-few (circuit_in a.c) a.limits a.res a.work c.in_ok-splits.ensures (c.terms_needed.ensures ∙ (λ i. terms_needed (length a.c.gates.now / gate_size) (c.of.ensures i) (c.of-2.ensures i)))
