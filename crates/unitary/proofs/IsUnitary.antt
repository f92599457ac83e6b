-- What circuit_unitary delivers is unitary: an accepted circuit has one branch, and the branches are complete.
use mathlib.Core.Path.{◌≡◌, sym, ap, ◌∙◌, subst}
use mathlib.Core.Bool.{Bool, true, cond, ◌&&◌}
use mathlib.Core.List.{List, []}
use Prim.Native.Nat.{ℕ, ◌+◌, ◌*◌, ◌^◌, ◌≤◌}
use native.Mathlib.Omega.{arith}
use lib.Arith.{digits_lt}
use lib.Dec.{eqb}
use lib.ListN.{length, get_or}
use lib.IntN.{ℤ}
use Rattle.algebra.specs.Lists.{every}
use Rattle.algebra.proofs.Sum.{times-same, zero-sum}
use Rattle.exact.specs.Exact.{exact, conj}
use Rattle.exact.proofs.Exact.{exacts}
use Rattle.cells.specs.Cells.{fill, cell_size}
use Rattle.cells.proofs.Cell.{cell-filled}
use Rattle.matrix.specs.Matrix as words
use Rattle.gate.specs.Gate.{Gate, gates_of, splits}
use Rattle.gate.specs.Embedding.{Matrix, Equal, adjoint}
use Rattle.gate.specs.Inner.Entries.{valid}
use Rattle.kraus.specs.Branch.{Branch}
use Rattle.kraus.specs.Dense.{cell}
use Rattle.kraus.proofs.Complete.{norm, gram, completeness}
use Rattle.circuit.proofs.Products.{square_is}
use Rattle.unitary.specs.Unitary.{circuit_unitary}
use Rattle.unitary.specs.Inner.Accepted.{Accepted}
use Rattle.unitary.specs.IsUnitary.{IsUnitary, Delivers, DeliversUnitary}
use Rattle.unitary.proofs.Branch.{branch, one-branch, all_valid}
use Rattle.unitary.proofs.Accepting.{unitary-accepted}

is_unitary : (n : ℕ) (gs : List Gate) → every (λ (g : Gate). valid n 0 g && eqb (splits g) 0) gs ≡ true → IsUnitary (2 ^ n) (cell exact (2 ^ n) (circuit_unitary n gs))
is_unitary n gs ok r c l m =
    sym (exacts.add_comm (norm n r c (branch (circuit_unitary n gs))) exact.𝟘 ∙ zero-sum exacts (2 ^ n) _)
    ∙ ap (λ (bs : List Branch). gram n bs r c) (sym (one-branch n gs ok))
    ∙ completeness n 0 [] gs (all_valid n gs ok) r c l m

unitary-same : (d : ℕ) (M U : Matrix) → Equal d M U → IsUnitary d U → IsUnitary d M
unitary-same d M U e h r c l m = times-same exacts d (adjoint conj M) (adjoint conj U) M U r c (λ k j. ap conj (e k r j l)) (λ k j. e k c j m) ∙ h r c l m

delivers : (n : ℕ) (ws : List ℕ) (r : List ℤ) (work : ℕ) → Accepted n (gates_of ws) (length r) work
    → Delivers n ws (fill r 0 (2 ^ n * 2 ^ n) (λ (i : ℕ). get_or (circuit_unitary n (gates_of ws)) i exact.𝟘))
delivers n ws r work acc = record { unitary = unitary; entries = entries; read_back = unitary-same (2 ^ n) _ _ entries unitary }
  where
    unitary : IsUnitary (2 ^ n) (cell exact (2 ^ n) (circuit_unitary n (gates_of ws)))
    unitary = is_unitary n (gates_of ws) acc.unitary

    room : 0 + 2 ^ n * 2 ^ n * cell_size ≤ length r
    room = omega (arith, square_is (2 ^ n), acc.result_room)

    entries : Equal (2 ^ n) (words.cell (fill r 0 (2 ^ n * 2 ^ n) (λ (i : ℕ). get_or (circuit_unitary n (gates_of ws)) i exact.𝟘)) 0 (2 ^ n)) (cell exact (2 ^ n) (circuit_unitary n (gates_of ws)))
    entries j k l m = cell-filled (λ (i : ℕ). get_or (circuit_unitary n (gates_of ws)) i exact.𝟘) r 0 (2 ^ n * 2 ^ n) (j * 2 ^ n + k) (digits_lt l m) room

pub delivers-unitary : DeliversUnitary
delivers-unitary n l ws r w e =
    let words : List ℤ = fill r 0 (2 ^ n * 2 ^ n) (λ (i : ℕ). get_or (circuit_unitary n (gates_of ws)) i exact.𝟘) in
    subst (Delivers n ws) (sym (ap (λ (b : Bool). cond b words r) e)) (delivers n ws r (length w) (unitary-accepted n l ws (length r) (length w) e))
