-- What circuit_unitary delivers is unitary, U†U = I, in exact numbers.
use Rattle.std.specs.Prelude.{◌≡◌, true, List, ℕ, ◌^◌, ℤ, is_ok}
use Rattle.algebra.specs.Sum.{times, δ}
use Rattle.exact.specs.Exact.{exact, conj}
use Rattle.matrix.specs.Matrix as words
use Rattle.gate.specs.Gate.{gates_of}
use Rattle.gate.specs.Embedding.{Matrix, Equal, adjoint}
use Rattle.kraus.specs.Dense.{cell}
use Rattle.circuit.specs.declared.limits.Limits.{Limits}
use Rattle.unitary.specs.Unitary.{circuit_unitary, verdict_of, result_after}

-- U†U = I, of a matrix of d rows and columns
abbrev pub IsUnitary : ℕ → Matrix → Type 0
IsUnitary d U = Equal d (times exact d (adjoint conj U) U) (δ exact)

-- of the gates' words ws and the words that the call leaves in the result
pub record Delivers (n : ℕ) (ws : List ℕ) (result : List ℤ) : Type 0 where
  pub unitary : IsUnitary (2 ^ n) (cell exact (2 ^ n) (circuit_unitary n (gates_of ws)))
  -- the numbers read back from the result are its entries
  pub entries : Equal (2 ^ n) (words.cell result 0 (2 ^ n)) (cell exact (2 ^ n) (circuit_unitary n (gates_of ws)))
  pub read_back : IsUnitary (2 ^ n) (words.cell result 0 (2 ^ n))

-- every accepted call
abbrev pub DeliversUnitary : Type 0
DeliversUnitary = (n : ℕ) (l : Limits) (ws : List ℕ) (r w : List ℤ) → is_ok (verdict_of n l ws r w) ≡ true → Delivers n ws (result_after n l ws r w)
