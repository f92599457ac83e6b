-- `answers::check_comparison` meets its contract.
use Rattle.std.proofs.Common.{◌∙◌}
use Rattle.replay.specs.Record.{with_numbers, with_scalar}
use Rattle.replay.proofs.answers.check_comparison.Goals as goal

pub returns : goal.returns
returns c =
    let t = c.args.text.now in
    let found = c.numbers.ensures ∙ (λ i. with_numbers t c.args.seen (c.finding_numbers.ensures i)) in
    let left = c.scalar.ensures ∙ (λ i. with_scalar t (found i) (c.found_left.ensures i)) in
    c.scalar-2.ensures ∙ (λ i. with_scalar t (left i) (c.found_right.ensures i))
