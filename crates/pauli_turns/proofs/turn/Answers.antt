-- `turn` meets its contract.
use mathlib.Core.Path.{◌≡◌, subst}
use Prim.Native.Nat.{ℕ}
use native.Mathlib.Omega.{arith}
use Rattle.pauli_turns.specs.Inner.Turns.{form_of, Rotating}
use Rattle.pauli_turns.proofs.turn.Goals as goal

pub turn_eighths-requires-in_default : goal.turn_eighths-requires-in_default
turn_eighths-requires-in_default c =
    let a = c.args in
    let e : a.k ≡ 7 = omega (arith, c.requires.eighths) in
    subst (λ (k : ℕ). Rotating a.work.now (form_of a.axis) k a.reads a.bank.at a.bank.d a.bank.count) e c.requires
