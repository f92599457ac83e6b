-- `page::Writer::put_signed` meets its contract.
use Prim.Native.Nat.{ℕ}
use Prim.Native.Char.{code}
use mathlib.Core.Path.{ap, ◌∙◌}
use mathlib.Core.List.{◌∷◌}
use lib.IntN.{nat_abs}
use mir.Facts.{to_z-of_z}
use Rattle.text.specs.Decimal.{decimal}
use Rattle.text.proofs.Put.{none, then, text, onto}
use Rattle.text.proofs.Digits.{signed_below, signed_natural}
use Rattle.text.proofs.page.Writer.put_signed.Goals as goal
use Rattle.text.proofs.page.Writer.put_signed.Goals.{then-z-lt0, else-z-lt0}

pub returns : goal.returns
returns c =
    let size = c.unsigned_abs.ensures.value ∙ ap nat_abs (to_z-of_z c.ranges.z) in
    elim c.if-z-lt0.branch [
      | then-z-lt0 w ↦
          text (ap (λ (n : ℕ). code "-" ∷ decimal n) size ∙ signed_below c.args.z c.ranges.z w.if-z-lt0.true) (then (onto w.self-is w.put.ensures) c.put_decimal.ensures)
      | else-z-lt0 w ↦ text (ap decimal size ∙ signed_natural c.args.z c.ranges.z w.if-z-lt0.false) (then (onto w.self-is (none _)) c.put_decimal.ensures)
    ]
