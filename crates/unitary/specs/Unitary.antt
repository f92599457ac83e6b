-- The unitary of a circuit: the product of its gates' matrices, the first gate rightmost. And a call of circuit_unitary.
use Rattle.std.specs.Prelude.{cond, ℕ, ◌*◌, ◌^◌, length, get_or, ℤ, pos, is_ok}
use mathlib.Core.List.{List, foldl}
use Rattle.algebra.specs.Sum.{δ}
use Rattle.algebra.specs.Words.{fill_words}
use Rattle.exact.specs.Exact.{Exact, exact}
use Rattle.cells.specs.Cells.{fill}
use Rattle.gate.specs.Gate.{Gate, gates_of}
use Rattle.gate.specs.Embed.{gate_entry}
use Rattle.kraus.specs.Dense.{table, left}
use Rattle.circuit.specs.declared.limits.Limits.{Limits}
use Rattle.verdict.specs.Questions.{Verdict}
use Rattle.circuit.specs.Sizes.{unitary_work}
use Rattle.circuit.specs.Questions.{unitary_verdict}

abbrev pub unitary_step : ℕ → List Exact → Gate → List Exact
unitary_step n m g = left exact (2 ^ n) (gate_entry n g 0) m

-- row by row
abbrev pub circuit_unitary : ℕ → List Gate → List Exact
circuit_unitary n gs = foldl (unitary_step n) (table (2 ^ n) (δ exact)) gs

-- its entries written to the result r, then what the buffer held
abbrev pub with_unitary : ℕ → List ℕ → List ℤ → List ℤ
with_unitary n ws r = fill r 0 (2 ^ n * 2 ^ n) (λ (i : ℕ). get_or (circuit_unitary n (gates_of ws)) i exact.𝟘)

-- zeros in the words that the call asks of the work buffer w, then what it held
abbrev pub with_zeros : ℕ → List ℤ → List ℤ
with_zeros n w = fill_words w 0 (unitary_work (2 ^ n)) (λ (i : ℕ). pos 0)

-- n qubits, the gates' words ws, the limits l, the result r and the work buffer w; a refusal leaves both as they were
module _ (n : ℕ) (l : Limits) (ws : List ℕ) (r w : List ℤ) where
  abbrev pub verdict_of : Verdict
  verdict_of = unitary_verdict n l ws (length r) (length w)

  abbrev pub result_after : List ℤ
  result_after = cond (is_ok verdict_of) (with_unitary n ws r) r

  abbrev pub work_after : List ℤ
  work_after = cond (is_ok verdict_of) (with_zeros n w) w
