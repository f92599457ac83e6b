-- A gate: five words, which of them name qubits and classical bits, and the questions asked of it.
use Rattle.std.specs.Prelude.{Bool, true, false, cond, not, ◌&&◌, ◌||◌, List, [], ◌∷◌, ℕ, zero, suc, ◌+◌, ◌*◌, ◌/◌, eqb, leb, ltb, length, get_or, take, drop, Option, Some, None}
use Rattle.algebra.specs.Lists.{every, some}

pub record Gate : Type 0 where
  pub kind : ℕ
  pub a : ℕ
  pub b : ℕ
  pub c : ℕ
  pub k : ℕ

abbrev pub gate : ℕ → ℕ → ℕ → ℕ → ℕ → Gate
gate kind a b c k = record { kind = kind; a = a; b = b; c = c; k = k }

-- the words of a gate
abbrev pub gate_size : ℕ
gate_size = 5

-- the gate in the words from `at` on
abbrev pub gate_at : List ℕ → ℕ → Gate
gate_at ws at = gate (get_or ws at 0) (get_or ws (at + 1) 0) (get_or ws (at + 2) 0) (get_or ws (at + 3) 0) (get_or ws (at + 4) 0)

-- gate i, gate i + 1, .., n of them
abbrev pub gates_from : List ℕ → ℕ → ℕ → List Gate
gates_from ws i zero = []
gates_from ws i (suc n) = gate_at ws (i * gate_size) ∷ gates_from ws (suc i) n

abbrev pub gates_of : List ℕ → List Gate
gates_of ws = gates_from ws 0 (length ws / gate_size)

-- ---- kinds, in the order of the Rust's `GateKind`
-- 0 h, 1 x, 2 z, 3 s, 4 sdg, 5 t, 6 tdg, 7 rz, 8 cnot, 9 cz, 10 ccx, 11 ccz, 12 measure, 13 reset, 14 p, 15 y, 16 sx,
-- 17 rx, 18 ry, 19 swap, 20 cy, 21 cp, 22 crx, 23 cry, 24 crz, 25 ch, 26 cswap
abbrev pub last_kind : ℕ
last_kind = 26

abbrev pub rz : ℕ
rz = 7

abbrev pub measure : ℕ
measure = 12

abbrev pub reset : ℕ
reset = 13

-- how many of the words a, b, c name qubits, by kind
abbrev pub arities : List ℕ
arities = 1 ∷ 1 ∷ 1 ∷ 1 ∷ 1 ∷ 1 ∷ 1 ∷ 1 ∷ 2 ∷ 2 ∷ 3 ∷ 3 ∷ 1 ∷ 1 ∷ 1 ∷ 1 ∷ 1 ∷ 1 ∷ 1 ∷ 2 ∷ 2 ∷ 2 ∷ 2 ∷ 2 ∷ 2 ∷ 2 ∷ 3 ∷ []

abbrev pub arity : ℕ → ℕ
arity kind = get_or arities kind 0

abbrev pub elem : ℕ → List ℕ → Bool
elem q [] = false
elem q (s ∷ ss) = eqb q s || elem q ss

abbrev pub distinct : List ℕ → Bool
distinct [] = true
distinct (x ∷ xs) = not (elem x xs) && distinct xs

abbrev pub qubits : Gate → List ℕ
qubits g = take (arity g.kind) (g.a ∷ g.b ∷ g.c ∷ [])

-- the classical bits that it writes
abbrev pub bits : Gate → List ℕ
bits g = cond (eqb g.kind measure) (g.b ∷ []) []

-- the classical bit that it writes, if it writes one
abbrev pub bit_of : Gate → Option ℕ
bit_of g = cond (eqb g.kind measure) (Some g.b) None

-- the words among a, b, c that it does not use
abbrev pub unused : Gate → List ℕ
unused g = cond (eqb g.kind measure) (g.c ∷ []) (drop (arity g.kind) (g.a ∷ g.b ∷ g.c ∷ []))

-- ---- two gates share a qubit or a classical bit
abbrev pub meet : List ℕ → List ℕ → Bool
meet ss ts = some (λ (s : ℕ). elem s ts) ss

abbrev pub share : Gate → Gate → Bool
share g h = meet (qubits g) (qubits h) || meet (bits g) (bits h)

-- ---- the questions of one gate
-- question 4: a known kind, rz's k at most 8, every unused word 0
abbrev pub formed : Gate → Bool
formed g = leb g.kind last_kind && (cond (eqb g.kind rz) (leb g.k 8) (eqb g.k 0) && every (λ (w : ℕ). eqb w 0) (unused g))

-- question 5: qubits below n and all different, a measure's bit below m
abbrev pub placed : ℕ → ℕ → Gate → Bool
placed n m g = every (λ (q : ℕ). ltb q n) (qubits g) && (distinct (qubits g) && every (λ (i : ℕ). ltb i m) (bits g))

-- question 6: not p, rx, ry, cp, crx, cry, crz, nor rz with no quarter turns
abbrev pub supported : Gate → Bool
supported g = not (elem g.kind (14 ∷ 17 ∷ 18 ∷ 21 ∷ 22 ∷ 23 ∷ 24 ∷ [])) && not (eqb g.kind rz && eqb g.k 8)

-- ---- what the limits count
-- h, sx and ch weigh 1
abbrev pub weight : Gate → ℕ
weight g = cond (elem g.kind (0 ∷ 16 ∷ 25 ∷ [])) 1 0

-- the most that the gates of a circuit may weigh
abbrev pub max_weight : ℕ
max_weight = 56

-- a measure and a reset split each branch in two
abbrev pub splits : Gate → ℕ
splits g = cond (elem g.kind (measure ∷ reset ∷ [])) 1 0
