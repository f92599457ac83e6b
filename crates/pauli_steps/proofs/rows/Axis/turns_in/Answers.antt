-- The signed bits of the partner are counted, modulo 2.
use mathlib.Core.Path.{◌≡◌, ap, ◌∙◌}
use Prim.Native.Nat.{ℕ, ◌+◌, ◌*◌, ◌%◌}
use native.Mathlib.Nat.{mod-lt}
use native.Mathlib.Omega.{arith}
use lib.Bits.{bit_and, bit_xor}
use lib.Count.{ones}
use Rattle.exact.specs.Exact.{imaginary, power_of}
use Rattle.pauli_nodes.specs.Nodes.{turned}
use Rattle.pauli_words.proofs.Parity.{ones_masked}
use Rattle.pauli_steps.proofs.rows.Axis.turns_in.Goals as goal

whole_turns : (k : ℕ) → turned (k % 4) ≡ turned k
whole_turns k = let e : k % 4 % 4 ≡ k % 4 = omega arith in ap (power_of imaginary) e

pub returns : goal.returns
returns c =
    let a = c.args.self in
    let k = a.turns + 2 * (ones (bit_and a.signs (bit_xor c.args.r a.flips)) % 2) in
    (mod-lt k (omega arith), whole_turns k ∙ ap (λ (s : ℕ). turned (a.turns + 2 * s)) (ones_masked a.signs (bit_xor c.args.r a.flips) a.in_range.0))
