-- A small matrix placed on some of the n qubits: qubit q is the bit of weight 2^(n − 1 − q) of a row or column number.
use Rattle.std.specs.Prelude.{Bool, cond, ◌||◌, List, map, ℕ, ◌-◌, ◌/◌, ◌%◌, ◌^◌, eqb}
use Rattle.algebra.specs.Ops.{Ops}
use Rattle.algebra.specs.Lists.{all_below}
use Rattle.exact.specs.Exact.{Exact, exact}
use Rattle.gate.specs.Gate.{Gate, elem, qubits}
use Rattle.gate.specs.Operators.{operator_at}

-- qubit q of row or column r
abbrev pub bit : ℕ → ℕ → ℕ → ℕ
bit n q r = r / 2 ^ (n - 1 - q) % 2

-- the bits of the qubits qs
abbrev pub bits_of : ℕ → List ℕ → ℕ → List ℕ
bits_of n qs r = map (λ (q : ℕ). bit n q r) qs

-- r and c agree in every qubit but those of qs
abbrev pub agree : ℕ → List ℕ → ℕ → ℕ → Bool
agree n qs r c = all_below n (λ (q : ℕ). elem q qs || eqb (bit n q r) (bit n q c))

-- u on the qubits qs, and the identity on all others
abbrev pub embed : {A : Type 0} → Ops A → ℕ → List ℕ → (List ℕ → List ℕ → A) → ℕ → ℕ → A
embed o n qs u r c = cond (agree n qs r c) (u (bits_of n qs r) (bits_of n qs c)) o.𝟘

-- entry (r, c) of the matrix of operator j of a gate, on n qubits
abbrev pub gate_entry : ℕ → Gate → ℕ → ℕ → ℕ → Exact
gate_entry n g j r c = embed exact n (qubits g) (operator_at g j).small r c
