-- `states::put_binary` meets its contract.
use mathlib.Core.Path.{sym, ap, ◌∙◌}
use mathlib.Core.List.{◌∷◌}
use Prim.Native.Nat.{ℕ, ◌+◌, ◌-◌, ◌%◌}
use native.Mathlib.Omega.{arith}
use Rattle.text.proofs.Put.{left_less, left-none, left_is}
use Rattle.answers.specs.States.{binary}
use Rattle.answers.proofs.Bits.{binary-more, binary-end}
use Rattle.answers.proofs.states.put_binary.Goals as goal

pub loop-k-preserved : goal.loop-k-preserved
loop-k-preserved c =
    let e = binary-more c.loop-k.k c.args.x (omega arith) ∙ ap (λ (v : ℕ). (48 + v % 2) ∷ binary (c.loop-k.k - 1) c.args.x) (sym c.high.ensures) in
    left_less (left_is e c.loop-k.invariant) c.put.ensures

pub returns : goal.returns
returns c = left-none (left_is (binary-end c.loop-k.k c.args.x (omega arith)) c.loop-k.invariant)
