-- `add_ordered` meets its contract: where the first term cannot be scaled, the sum is too large.
use mathlib.Core.Path.{sym, ◌∙◌}
use Rattle.exact.specs.Exact.{exact}
use Rattle.exact.proofs.Overflow.{overflow}
use Rattle.scalar.specs.Calls.{value}
use Rattle.scalar.proofs.Questions.{too_large}
use Rattle.scalar.proofs.add_ordered.Goals as goal

pub returns-then-not-can_scale : goal.returns-then-not-can_scale
returns-then-not-can_scale c =
    let x = value c.args.low in
    let y = value c.args.high in
    sym (too_large (exact.◌⊕◌ x y) (overflow x y c.requires.0 c.requires.1.0 c.requires.1.1 (sym c.can_scale.ensures ∙ c.if-not-can_scale.true)))
