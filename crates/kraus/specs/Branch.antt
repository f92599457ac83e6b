-- Branches: a circuit is run as a list of Kraus matrices, each with a store of classical bits.
use mathlib.Core.List.{List, [], ◌∷◌, map, foldl}
use Rattle.std.specs.Prelude.{ℕ, ◌^◌, set}
use Rattle.algebra.specs.Lists.{concat_map}
use Rattle.algebra.specs.Sum.{δ}
use Rattle.exact.specs.Exact.{Exact, exact}
use Rattle.gate.specs.Gate.{Gate, qubits, bits}
use Rattle.gate.specs.Operators.{Operator, operators}
use Rattle.gate.specs.Embed.{embed}
use Rattle.kraus.specs.Dense.{table, left}

-- one bit of a store is 0 or 1; bit 0 comes first
abbrev pub Store : Type 0
Store = List ℕ

pub record Branch : Type 0 where
  -- row by row: an entry is output·2^n + input
  pub matrix : List Exact
  pub store : Store

-- a Kraus operator: its matrix on all qubits, by rows and columns, and what it writes to the store
pub record KrausOperator : Type 0 where
  pub entry : ℕ → ℕ → Exact
  pub writes : Store → Store

-- on n qubits: it multiplies on the left, and writes the store
abbrev pub apply : ℕ → Branch → KrausOperator → Branch
apply n b K = record { matrix = left exact (2 ^ n) K.entry b.matrix; store = K.writes b.store }

-- each branch in turn gives way to its products with the operators, in order
abbrev pub step : ℕ → List Branch → List KrausOperator → List Branch
step n bs Ks = concat_map (λ (b : Branch). map (apply n b) Ks) bs

-- the identity with the initial store
abbrev pub start : ℕ → Store → List Branch
start n σ = record { matrix = table (2 ^ n) (δ exact); store = σ } ∷ []

-- ---- of a circuit
-- v written to each of the bits
abbrev pub write : List ℕ → ℕ → Store → Store
write [] v σ = σ
write (i ∷ is) v σ = set (write is v σ) i v

-- an operator of a gate on its qubits, which writes the gate's classical bits
abbrev pub kraus_operator : ℕ → Gate → Operator → KrausOperator
kraus_operator n g o = record { entry = embed exact n (qubits g) o.small; writes = write (bits g) o.out }

abbrev pub operators_of : ℕ → Gate → List KrausOperator
operators_of n g = map (kraus_operator n g) (operators g)

abbrev pub gate_step : ℕ → List Branch → Gate → List Branch
gate_step n bs g = step n bs (operators_of n g)

abbrev pub branches : ℕ → Store → List Gate → List Branch
branches n σ gs = foldl (gate_step n) (start n σ) gs
