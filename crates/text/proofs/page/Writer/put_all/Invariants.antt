-- `page::Writer::put_all` meets its contract.
use lib.ListN.{take}
use Rattle.text.specs.Inner.Puts.{Puts}
use Rattle.text.proofs.page.Writer.put_all.Given as goal

abbrev pub invariant-loop-b : goal.invariant-loop-b
invariant-loop-b l = Puts l.initial.self (take l.b-index l.bytes) l.self
