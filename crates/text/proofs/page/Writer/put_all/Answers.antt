-- `page::Writer::put_all` meets its contract.
use mathlib.Core.Path.{sym}
use Rattle.std.proofs.lemmas.List.{take_more}
use Rattle.text.proofs.Put.{none, then, text}
use Rattle.text.proofs.page.Writer.put_all.Goals as goal

pub loop-b-init : goal.loop-b-init
loop-b-init c = none c.args.self.now

pub loop-b-preserved : goal.loop-b-preserved
loop-b-preserved c =
    text (sym (take_more c.args.bytes.now c.loop-b.b-index 0 c.loop-b-test.true)) (then c.loop-b.invariant c.put.ensures)
