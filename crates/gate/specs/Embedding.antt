-- Laws of matrices placed on qubits, in exact numbers, a type each.
use Rattle.std.specs.Prelude.{◌≡◌, true, false, ◌&&◌, List, [], ◌∷◌, ◌++◌, map, ℕ, zero, suc, ◌^◌, ◌<◌, length}
use Rattle.algebra.specs.Ops.{Ops}
use Rattle.algebra.specs.Sum.{list_sum, times, δ}
use Rattle.algebra.specs.Lists.{All}
use Rattle.exact.specs.Exact.{Exact, exact, conj}
use Rattle.gate.specs.Gate.{Gate, distinct, meet, qubits, formed, placed, supported}
use Rattle.gate.specs.Operators.{Small, Operator, operators, identity}
use Rattle.gate.specs.Embed.{embed}

-- ---- matrices
-- an entry for a row and a column
abbrev pub Matrix : Type 0
Matrix = ℕ → ℕ → Exact

-- equal entries in all of d rows and columns
abbrev pub Equal : ℕ → Matrix → Matrix → Type 0
Equal d G H = (r c : ℕ) → r < d → c < d → G r c ≡ H r c

-- M†: the transpose, each entry conjugated
abbrev pub adjoint : {I A : Type 0} → (A → A) → (I → I → A) → I → I → A
adjoint conj M r c = conj (M c r)

-- the basis states of m qubits, as lists of bits
abbrev pub basis : ℕ → List (List ℕ)
basis zero = [] ∷ []
basis (suc m) = map (λ (x : List ℕ). 0 ∷ x) (basis m) ++ map (λ (x : List ℕ). 1 ∷ x) (basis m)

-- the product of two small matrices on m qubits
abbrev pub product : {A : Type 0} → Ops A → ℕ → (List ℕ → List ℕ → A) → (List ℕ → List ℕ → A) → List ℕ → List ℕ → A
product o m u v x y = list_sum o (λ (z : List ℕ). o.◌⊗◌ (u x z) (v z y)) (basis m)

-- different qubits, each below n
pub record Qubits (n : ℕ) (qs : List ℕ) : Type 0 where
  pub below : All (λ (q : ℕ). q < n) qs
  pub different : distinct qs ≡ true

-- ---- laws
-- a product of small matrices becomes the product
abbrev pub RespectsProducts : Type 0
RespectsProducts =
    (n : ℕ) (qs : List ℕ) → Qubits n qs → (u v : Small)
    → Equal (2 ^ n) (embed exact n qs (product exact (length qs) u v)) (times exact (2 ^ n) (embed exact n qs u) (embed exact n qs v))

-- the adjoint becomes the adjoint
abbrev pub RespectsAdjoints : Type 0
RespectsAdjoints = (n : ℕ) (qs : List ℕ) (u : Small) → Equal (2 ^ n) (embed exact n qs (adjoint conj u)) (adjoint conj (embed exact n qs u))

-- the identity becomes the identity
abbrev pub RespectsIdentity : Type 0
RespectsIdentity = (n : ℕ) (qs : List ℕ) → Equal (2 ^ n) (embed exact n qs identity) (δ exact)

-- small matrices on qubits that do not meet commute
abbrev pub Commute : Type 0
Commute =
    (n : ℕ) (qs ps : List ℕ) → Qubits n qs → Qubits n ps → meet qs ps ≡ false → (u v : Small)
    → Equal (2 ^ n) (times exact (2 ^ n) (embed exact n qs u) (embed exact n ps v)) (times exact (2 ^ n) (embed exact n ps v) (embed exact n qs u))

-- Σ M†M = I over the operators of a gate
abbrev pub Complete : Type 0
Complete =
    (n m : ℕ) (g : Gate) → formed g && (placed n m g && supported g) ≡ true
    → Equal (2 ^ n)
    (λ (r c : ℕ). list_sum exact (λ (o : Operator). let M = embed exact n (qubits g) o.small in times exact (2 ^ n) (adjoint conj M) M r c) (operators g))
    (δ exact)
