-- The questions of one gate asked at once, whichever call asks them.
use Rattle.std.specs.Prelude.{Bool, true, false, ◌&&◌, ◌||◌, [], ◌∷◌, ℕ, eqb, ltb, take, drop}
use Rattle.algebra.specs.Lists.{every}
use Rattle.gate.specs.declared.judge.Asking.{Asking}
use Rattle.gate.specs.declared.judge.Asking.TheVariants.{Channel, Unitary, Placing}
use Rattle.gate.specs.Gate.{Gate, distinct, splits}
use Rattle.gate.specs.Inner.Entries.{valid}

-- the first u of its words are different qubits below n, and those behind them are 0
abbrev pub names_qubits : ℕ → ℕ → Gate → Bool
names_qubits u n g =
    let words = g.a ∷ g.b ∷ g.c ∷ [] in
    every (λ (w : ℕ). eqb w 0) (drop u words) && (every (λ (w : ℕ). ltb w n) (take u words) && distinct (take u words))

-- the bit count of a call, 0 where it has none
abbrev pub bits_asked : Asking → ℕ
bits_asked (Channel m) = m
bits_asked Unitary = 0
bits_asked (Placing m) = m

-- circuit_unitary holds measure and reset unsupported
abbrev pub may_split : Asking → Bool
may_split (Channel m) = true
may_split Unitary = false
may_split (Placing m) = true

abbrev pub accepted : ℕ → ℕ → Bool → Gate → Bool
accepted n m split g = valid n m g && (eqb (splits g) 0 || split)
