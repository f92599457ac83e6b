-- `numbers::put_term` meets its contract.
use mathlib.Core.Path.{sym, ap}
use Prim.Native.Nat.{ℕ}
use Rattle.text.proofs.Put.{text, then, none}
use Rattle.answers.specs.Numbers.{sized}
use Rattle.answers.proofs.Sums.{shown_is}
use Rattle.answers.proofs.numbers.put_term.Goals as goal

pub returns-else-not-is_absent : goal.returns-else-not-is_absent
returns-else-not-is_absent c =
    text (shown_is c.args.first c.args.z c.args.unit.now c.ranges.z (sym c.if-not-is_absent.ensures)) (none _)

pub returns-then-not-is_absent : goal.returns-then-not-is_absent
returns-then-not-is_absent c =
    text (shown_is c.args.first c.args.z c.args.unit.now c.ranges.z (sym c.if-not-is_absent.ensures))
    (then c.put_sign.ensures (text (ap (λ (n : ℕ). sized n c.args.unit.now) c.unsigned_abs.ensures.value) c.put_sized.ensures))
