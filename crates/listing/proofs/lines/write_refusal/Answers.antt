-- `lines::write_refusal` meets its contract.
use borrow.Author.Rules.{rules}
use mathlib.Core.Path.{◌∙◌}
use Rattle.text.proofs.Put.{then, lent}
use Rattle.listing.proofs.lines.write_refusal.Goals as goal

pub returns : goal.returns
returns c =
    let puts = then (then (then c.put_all.ensures c.put_natural.ensures) c.put_natural-2.ensures) c.put.ensures in
    let same = puts.same ∙ c.new-w.ensures.same in
    lent c.new-w.ensures.room c.new-w.ensures.at puts (search rules)
