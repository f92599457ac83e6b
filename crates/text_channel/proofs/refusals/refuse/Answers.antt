-- `refusals::refuse` meets its contract.
use mathlib.Core.Path.{◌∙◌}
use Prim.Native.Nat.{◌/◌}
use lib.ListN.{length}
use Rattle.gate.specs.Gate.{gate_size}
use borrow.Author.Rules.{rules}
use Rattle.text.specs.Page.{page, write}
use Rattle.text.proofs.Put.{lent}
use Rattle.answer_lines.specs.Lines.{refused_text}
use Rattle.text_channel.proofs.refusals.refuse.Goals as goal

pub returns-clause-text : goal.returns-clause-text
returns-clause-text c =
    let a = c.args in
    let same = c.put_refused.ensures.same ∙ c.new-w.ensures.same in
    lent c.new-w.ensures.room c.new-w.ensures.at c.put_refused.ensures (search rules)
    ∙ (λ i. write (page a.out.now 0) (refused_text a.which (c.fault_of-fault.ensures i) (c.faulty_gate.ensures i) (length a.gates.now / gate_size)))
