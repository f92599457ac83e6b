-- The operators of each kind of gate, as small matrices on its own qubits, and what each writes to the gate's classical bits.
-- A small matrix has an entry for the bits of a row and the bits of a column, the gate's first qubit first.
use Rattle.std.specs.Prelude.{Bool, true, false, cond, ◌&&◌, List, [], ◌∷◌, ℕ, eqb, get_or, pos, negsuc}
use Rattle.algebra.specs.Dyadic.{frac}
use Rattle.exact.specs.Exact.{Exact, exact, number, imaginary, inv_sqrt_two, omega}
use Rattle.gate.specs.Gate.{Gate, measure, reset}

abbrev pub Small : Type 0
Small = List ℕ → List ℕ → Exact

abbrev pub one : Exact
one = exact.𝟙

abbrev pub none : Exact
none = exact.𝟘

-- two by two: rows (p, q) and (r, s)
abbrev pub two : Exact → Exact → Exact → Exact → Small
two p q r s xs ys = cond (eqb (get_or xs 0 0) 0) (cond (eqb (get_or ys 0 0) 0) p q) (cond (eqb (get_or ys 0 0) 0) r s)

abbrev pub same_bits : List ℕ → List ℕ → Bool
same_bits [] [] = true
same_bits [] (y ∷ ys) = false
same_bits (x ∷ xs) [] = false
same_bits (x ∷ xs) (y ∷ ys) = eqb x y && same_bits xs ys

-- the identity on some qubits
abbrev pub identity : Small
identity xs ys = cond (same_bits xs ys) one none

-- u where the first bit is 1, the identity where it is 0
abbrev pub controlled : Small → Small
controlled u [] ys = none
controlled u (x ∷ xs) [] = none
controlled u (x ∷ xs) (y ∷ ys) = cond (eqb x y) (cond (eqb x 1) (u xs ys) (identity xs ys)) none

-- h: 1/√2 (1 1; 1 −1)
abbrev pub hadamard : Small
hadamard = two inv_sqrt_two inv_sqrt_two inv_sqrt_two (exact.neg inv_sqrt_two)

-- x: (0 1; 1 0)
abbrev pub pauli_x : Small
pauli_x = two none one one none

-- y: (0 −i; i 0)
abbrev pub pauli_y : Small
pauli_y = two none (exact.neg imaginary) imaginary none

-- diag(1, ω^j): z, s, sdg, t and tdg have j = 4, 2, 6, 1 and 7, and rz its k
abbrev pub phase : ℕ → Small
phase j = two one none none (omega j)

-- sx: 1/2 (1 + i, 1 − i; 1 − i, 1 + i)
abbrev pub root_x : Small
root_x =
    let p = frac (number (pos 1) (pos 0) (pos 1) (pos 0)) 1 in
    let q = frac (number (pos 1) (pos 0) (negsuc 0) (pos 0)) 1 in
    two p q q p

-- swap: |xy⟩ to |yx⟩
abbrev pub swapped : Small
swapped xs ys = cond (eqb (get_or xs 0 0) (get_or ys 1 0) && eqb (get_or xs 1 0) (get_or ys 0 0)) one none

-- of a kind that has no unitary here
abbrev pub no_unitary : Small
no_unitary xs ys = none

-- the unitary of each kind, as OpenQASM's qelib1.inc defines it
abbrev pub unitaries : ℕ → List Small
unitaries k =
    hadamard  -- 0 h
    ∷ pauli_x  -- 1 x
    ∷ phase 4  -- 2 z
    ∷ phase 2  -- 3 s
    ∷ phase 6  -- 4 sdg
    ∷ phase 1  -- 5 t
    ∷ phase 7  -- 6 tdg
    ∷ phase k  -- 7 rz, up to a global phase
    ∷ controlled pauli_x  -- 8 cx
    ∷ controlled (phase 4)  -- 9 cz
    ∷ controlled (controlled pauli_x)  -- 10 ccx
    ∷ controlled (controlled (phase 4))  -- 11 ccz
    ∷ no_unitary  -- 12 measure
    ∷ no_unitary  -- 13 reset
    ∷ no_unitary  -- 14 p
    ∷ pauli_y  -- 15 y
    ∷ root_x  -- 16 sx
    ∷ no_unitary  -- 17 rx
    ∷ no_unitary  -- 18 ry
    ∷ swapped  -- 19 swap
    ∷ controlled pauli_y  -- 20 cy
    ∷ no_unitary  -- 21 cp
    ∷ no_unitary  -- 22 crx
    ∷ no_unitary  -- 23 cry
    ∷ no_unitary  -- 24 crz
    ∷ controlled hadamard  -- 25 ch
    ∷ controlled swapped  -- 26 cswap
    ∷ []

-- an operator, and what it writes to the gate's classical bits
pub record Operator : Type 0 where
  pub small : Small
  pub out : ℕ

abbrev pub operator : Small → ℕ → Operator
operator u v = record { small = u; out = v }

-- measure (Nielsen and Chuang, measurement operators): |0⟩⟨0| writes 0, |1⟩⟨1| writes 1
abbrev pub projectors : List Operator
projectors = operator (two one none none none) 0 ∷ operator (two none none none one) 1 ∷ []

-- reset (operator sums): |0⟩⟨0| and |0⟩⟨1|; it has no classical bit to write
abbrev pub resetters : List Operator
resetters = operator (two one none none none) 0 ∷ operator (two none one none none) 0 ∷ []

-- a unitary gate has one operator, measure and reset have two
abbrev pub operators : Gate → List Operator
operators g =
    cond (eqb g.kind measure) projectors
    (cond (eqb g.kind reset) resetters
    (operator (get_or (unitaries g.k) g.kind no_unitary) 0 ∷ []))

-- operator j of a gate
abbrev pub operator_at : Gate → ℕ → Operator
operator_at g j = get_or (operators g) j (operator no_unitary 0)
