-- `put_first` meets its contract.
use Rattle.text.proofs.Put.{then, text}
use mathlib.Core.Path.{ap}
use Prim.Native.Nat.{ℕ}
use Rattle.text.specs.Decimal.{decimal}
use Rattle.answer_lines.specs.Lines.{labelled}
use Rattle.answer_lines.proofs.put_first.Goals as goal

pub returns : goal.returns
returns c =
    then (then (then (then (text c.opening.ensures c.put_all.ensures) (text (ap decimal c.number.ensures) c.put_decimal.ensures)) (text (ap (λ (k : ℕ). labelled " " k) c.index.ensures) c.put_labelled.ensures))
    c.put_labelled-2.ensures) c.put.ensures
