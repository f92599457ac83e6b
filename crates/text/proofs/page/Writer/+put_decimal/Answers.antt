-- `page::Writer::put_decimal` meets its contract: the digits before the last, then the last.
use mathlib.Core.Path.{sym}
use Rattle.text.proofs.Put.{none, text, then, onto}
use Rattle.text.proofs.Digits.{decimal-one, decimal-more}
use Rattle.text.proofs.page.Writer.+put_decimal.Goals as goal
use Rattle.text.proofs.page.Writer.+put_decimal.Goals.{then-n-ge10, else-n-ge10}

pub returns : goal.returns
returns t c =
    elim c.if-n-ge10.branch [
      | then-n-ge10 w ↦ text (sym (decimal-more c.args.n w.if-n-ge10.true c.ranges.n.fits)) (then (onto w.self-is w.put_decimal.ensures) c.put.ensures)
      | else-n-ge10 w ↦ text (sym (decimal-one c.args.n w.if-n-ge10.false)) (then (onto w.self-is (none _)) c.put.ensures)
    ]
