-- Kinds by what their matrices are made of.
use Rattle.std.specs.Prelude.{List, [], ◌∷◌, ℕ}
use Rattle.gate.specs.Gate.{rz, measure, reset}

abbrev pub swap : ℕ
swap = 19

abbrev pub cswap : ℕ
cswap = 26

-- unitaries on one qubit: h, x, y and sx, and with them the phases
abbrev pub constants : List ℕ
constants = 0 ∷ 1 ∷ 15 ∷ 16 ∷ []

abbrev pub unitary_kinds : List ℕ
unitary_kinds = 2 ∷ 3 ∷ 4 ∷ 5 ∷ 6 ∷ rz ∷ constants

-- two operators on one qubit
abbrev pub splitting : List ℕ
splitting = measure ∷ reset ∷ []

-- all on one qubit
abbrev pub one_qubit : List ℕ
one_qubit = measure ∷ reset ∷ unitary_kinds

-- a target under one control, and under two
abbrev pub controlled_once : List ℕ
controlled_once = 8 ∷ 9 ∷ 20 ∷ 25 ∷ []

abbrev pub controlled_twice : List ℕ
controlled_twice = 10 ∷ 11 ∷ []

-- two qubits that change places
abbrev pub swapping : List ℕ
swapping = swap ∷ cswap ∷ []
