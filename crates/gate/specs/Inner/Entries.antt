-- Entries of a gate's matrix as the code finds them: qubits by their masks, and two-by-two matrices as arrays.
use Rattle.std.specs.Prelude.{◌≡◌, Bool, cond, true, false, ◌&&◌, ◌||◌, List, [], ◌∷◌, ℕ, ◌+◌, ◌-◌, ◌/◌, ◌%◌, ◌^◌, ◌<◌, eqb, length, get_or}
use Rattle.std.specs.Int.Bits.{bit_and, bit_xor}
use Rattle.exact.specs.Exact.{Exact}
use Rattle.scalar.specs.declared.Scalar.{Scalar}
use Rattle.scalar.specs.Calls.{value, scalar_of}
use Rattle.gate.specs.Gate.{Gate, gate, arity, elem, formed, placed, supported}
use Rattle.gate.specs.Questions.{on_qubits}
use Rattle.gate.specs.Operators.{Small, operators, operator_at, unitaries, no_unitary, one, none, identity}
use Rattle.gate.specs.Embed.{gate_entry}
use Rattle.gate.specs.Inner.Kinds.{splitting, swapping, swap, cswap}

-- ---- two-by-two matrices as arrays, indexed by the row's and the column's bit
abbrev pub Table : Type 0
Table = List (List Scalar)

abbrev pub table_of : Small → Table
table_of u =
    (scalar_of (u (0 ∷ []) (0 ∷ [])) ∷ scalar_of (u (0 ∷ []) (1 ∷ [])) ∷ [])
    ∷ (scalar_of (u (1 ∷ []) (0 ∷ [])) ∷ scalar_of (u (1 ∷ []) (1 ∷ [])) ∷ [])
    ∷ []

abbrev pub no_scalar : Scalar
no_scalar = record { n = []; e = 0 }

abbrev pub pick : Table → ℕ → ℕ → Scalar
pick t x y = get_or (get_or t x []) y no_scalar

abbrev pub small_of : Table → Small
small_of t xs ys = value (pick t (get_or xs 0 0) (get_or ys 0 0))

-- the unitary of a kind; rz is given its k
abbrev pub unitary_of : ℕ → ℕ → Small
unitary_of kind k = get_or (unitaries k) kind no_unitary

-- what a controlled kind does to its target
abbrev pub target_of : ℕ → Small
target_of kind = unitary_of (cond (elem kind (8 ∷ 10 ∷ [])) 1 (cond (elem kind (9 ∷ 11 ∷ [])) 2 (cond (eqb kind 20) 15 0))) 0

-- ---- the columns of a row
-- the bits of a row number that a gate may change: its target's, or those of the two qubits that change places
abbrev pub flips : ℕ → Gate → ℕ
flips n g =
    cond (eqb g.kind swap) (2 ^ (n - 1 - g.a) + 2 ^ (n - 1 - g.b))
    (cond (eqb g.kind cswap) (2 ^ (n - 1 - g.b) + 2 ^ (n - 1 - g.c))
    (2 ^ (n - 1 - get_or (g.a ∷ g.b ∷ g.c ∷ []) (arity g.kind - 1) 0)))

-- row r has entries in column r and in this one, and zeros in all others
abbrev pub partner : ℕ → Gate → ℕ → ℕ
partner n g r = bit_xor r (flips n g)

-- the two entries of each row: entry 2·r is that in column r, and entry 2·r + 1 that in its partner's
abbrev pub row_entry : ℕ → Gate → ℕ → ℕ → Exact
row_entry n g j i = gate_entry n g j (i / 2) (cond (eqb (i % 2) 0) (i / 2) (partner n g (i / 2)))

-- ---- the entries by masks
-- the bits of a row number that are a gate's controls
abbrev pub controls : ℕ → Gate → ℕ
controls n g =
    cond (eqb (arity g.kind) 1 || eqb g.kind swap) 0
    (cond (eqb (arity g.kind) 2 || eqb g.kind cswap) (2 ^ (n - 1 - g.a)) (2 ^ (n - 1 - g.a) + 2 ^ (n - 1 - g.b)))

-- the entries of a row in its own column and in its partner's
pub record Pair : Type 0 where
  pub own : Scalar
  pub other : Scalar

-- where the target's bit is x
abbrev pub pair_of : Table → ℕ → Pair
pair_of t x = record { own = pick t x x; other = pick t x (1 - x) }

-- where the gate leaves the row as it is
abbrev pub kept : Pair
kept = record { own = scalar_of one; other = scalar_of none }

-- where the bits of two qubits that change places differ
abbrev pub exchanged : Pair
exchanged = record { own = scalar_of none; other = scalar_of one }

-- the one that entry i of the rows is
abbrev pub side : Pair → ℕ → Scalar
side p i = cond (eqb (i % 2) 0) p.own p.other

-- the pair of row r: `held` are the controls, and m the bits that the gate may change
abbrev pub row_pair : Pair → Pair → ℕ → ℕ → ℕ → Pair
row_pair low high held m r = cond (eqb (bit_and r held) held) (cond (eqb (bit_and r m) 0) low (cond (eqb (bit_and r m) m) high exchanged)) kept

-- ---- what is asked
-- the two-by-two matrix of operator j: on the only qubit, or on the target; the identity for a swap, which has none
abbrev pub core_of : Gate → ℕ → Table
core_of g j =
    cond (elem g.kind splitting) (table_of (operator_at (gate g.kind 0 0 0 0) j).small)
    (cond (eqb (arity g.kind) 1) (table_of (unitary_of g.kind g.k))
    (cond (elem g.kind swapping) (table_of identity) (table_of (target_of g.kind))))

-- a gate that passes the questions, on n qubits with m classical bits
abbrev pub valid : ℕ → ℕ → Gate → Bool
valid n m g = formed g && (placed n m g && supported g)

-- a gate that passes the questions, with the number of one of its operators
pub record Ready (n : ℕ) (g : Gate) (j : ℕ) : Type 0 where
  pub known : formed g ≡ true
  pub on : on_qubits n g ≡ true
  pub able : supported g ≡ true
  pub which : j < length (operators g)

-- two or three different qubits
pub record Apart2 (n a b : ℕ) : Type 0 where
  pub first : a < n
  pub second : b < n
  pub other : eqb a b ≡ false

pub record Apart3 (n a b c : ℕ) : Type 0 where
  pub first : a < n
  pub others : Apart2 n b c
  pub other : elem a (b ∷ c ∷ []) ≡ false
