-- `lists::list_case` meets its contract.
use Rattle.std.proofs.Common.{◌∙◌, replicate}
use Rattle.replay_cases.specs.Lists.{lent, list_case}
use Rattle.replay_cases.proofs.lists.list_case.Goals as goal

pub returns : goal.returns
unfolding list_case
returns c =
    c.lent.ensures ∙ (λ i. lent c.args.text.now c.args.at (c.mark.ensures i) (c.mark-2.ensures i) (c.mark-3.ensures i) (replicate 240 7) (c.mark-4.ensures i))
