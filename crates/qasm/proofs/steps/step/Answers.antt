-- `steps::step` meets its contract.
use Rattle.std.proofs.Common.{◌≡◌, ◌∷◌, refl, rules}
use Rattle.qasm.proofs.Moves.{step_some, step_none}
use Rattle.qasm.proofs.steps.step.Goals as goal

pub returns-in-Some-take : goal.returns-in-Some-take
returns-in-Some-take c =
    let a = c.args in
    let is : a.s.due.now ≡ c.in-Some.field-0-0.now ∷ c.in-Some.due.now = search rules in
    step_some a.s a.gates.now _ is c.with_due.ensures refl c.in-Some-take.ensures

pub returns-in-None : goal.returns-in-None
returns-in-None c =
    let a = c.args in
    let is : a.s.due.now ≡ c.in-Some.field-0-0.now ∷ c.in-Some.due.now = search rules in
    step_none a.s a.gates.now _ is c.with_due.ensures c.wrong.ensures c.in-None.ensures
