-- `page::Writer::put_decimal` ends: the number gets smaller.
use Rattle.text.proofs.page.Writer.+put_decimal.Given as goal

abbrev pub decreases-put_decimal : goal.decreases-put_decimal
decreases-put_decimal l = l.n
