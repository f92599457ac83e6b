-- `store_text` meets its contract.
use borrow.Author.Rules.{rules}
use mathlib.Core.Path.{◌∙◌}
use Rattle.text.proofs.Put.{lent}
use Rattle.c_texts.proofs.store_text.Goals as goal

pub returns : goal.returns
returns c =
    let same = c.put_store.ensures.same ∙ c.new-w.ensures.same in
    lent c.new-w.ensures.room c.new-w.ensures.at c.put_store.ensures (search rules)
