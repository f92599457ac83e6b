-- `Scalar::add` meets its contract: the ordered sum of the two does not depend on their order.
use mathlib.Core.Path.{ap, sym, ◌∙◌}
use Rattle.exact.specs.Exact.{exact}
use Rattle.exact.proofs.Exact.{exacts}
use Rattle.scalar.specs.Calls.{value, fitting}
use Rattle.scalar.proofs.Questions.{both_yes}
use Rattle.scalar.proofs.Scalar.add.Goals as goal

pub returns-else-self-other : goal.returns-else-self-other
returns-else-self-other c =
    let x = value c.args.self in
    let y = value c.args.other in
    c.add_ordered-else-self-other.ensures ∙ ap fitting (exacts.add_comm y x) ∙ sym (both_yes x y (fitting (exact.◌⊕◌ x y)) (sym c.are_well_formed.ensures ∙ c.if-not-are_well_formed.false))
